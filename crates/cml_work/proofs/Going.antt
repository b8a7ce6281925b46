-- Hubs that go on from others.
use Rattle.std.proofs.Common.{◌≡◌, ℕ, ◌++◌, List, [], ◌∷◌, length, Option, Some, None, IfSome, Result, Ok, Err, refl, ap, sym, subst, ◌∙◌, append_assoc, append-nil, arith}
use Rattle.cml_check.specs.Syntax.{PlainItem}
use Rattle.cml_schedule.specs.declared.item.Item.{Item}
use Rattle.cml_schedule.specs.declared.item.Item.TheVariants as item
use Rattle.cml_step.specs.Calls.{text_of}
use Rattle.cml_step.specs.Rans.{PlainRan}
use Rattle.cml_value.specs.declared.number.Tid.{Tid}
use Rattle.cml_hub.specs.Runs.{Run, stands}
use Rattle.cml_hub.specs.Kept.{Kept, Continues, Extends, IsOver, EachAdded, SwapsAreExchanges, TellsSwaps, Given, TakesSlice}
use Rattle.cml_hub.specs.declared.fault.End.{End}
use Rattle.cml_hub.specs.declared.fault.GiveFault.{GiveFault}
use Rattle.cml_hub.specs.declared.fault.GiveFault.TheVariants.{Stranger, Memory}
use Rattle.cml_work.specs.Marks.{BeginsWith}
use Rattle.cml_work.specs.Works.{PlainOpening, opening_of, OpenedBy, GoesOnFrom, IsWorked}

-- what holds of each of these items and of each that comes after them holds of all
each_more : (p : List (PlainItem ℕ)) (Holds : Run → Item → Type 0) (items more rest : List Item) → EachAdded p Holds items more
    → EachAdded p Holds (items ++ more) rest → EachAdded p Holds items (more ++ rest)
each_more p Holds items [] rest h q = subst (λ (l : List Item). EachAdded p Holds l rest) (append-nil items) q
each_more p Holds items (x ∷ more) rest h q =
    (h.0, each_more p Holds (items ++ x ∷ []) more rest h.1 (subst (λ (l : List Item). EachAdded p Holds l rest) (sym (append_assoc items (x ∷ []) more)) q))

-- nothing is asked of what is there
if_there : {A : Type 0} (o : Option A) → IfSome o (λ x. Unit {0})
if_there None = tt
if_there (Some x) = tt

-- a hub goes on from itself
pub goes_on_same : (h : Kept) → GoesOnFrom h h
goes_on_same h = record { program = refl; budget = refl; watch = refl; more = []; items = sym (append-nil _); exchanges = tt }

pub follows_itself : (o : PlainOpening) (h : Kept) → opening_of h ≡ o → OpenedBy o h
follows_itself o h is = subst (λ (p : PlainOpening). OpenedBy p h) is (goes_on_same h)

-- what goes on from a hub that follows an opening follows it too
pub follows_on : (o : PlainOpening) (mid new : Kept) → OpenedBy o mid → GoesOnFrom mid new → OpenedBy o new
follows_on o mid new p q = record {
  program = q.program ∙ p.program;
  budget = q.budget ∙ p.budget;
  watch = q.watch ∙ p.watch;
  more = p.more ++ q.more;
  items = q.items ∙ ap (λ xs. xs ++ q.more) p.items ∙ append_assoc o.items p.more q.more;
  exchanges =
      each_more o.program (λ r i. TellsSwaps r.world i) o.items p.more q.more p.exchanges
      (subst (λ (x : List (PlainItem ℕ) × List Item). SwapsAreExchanges x.0 x.1 q.more) (λ i. (p.program i, p.items i)) q.exchanges);
}

pub goes_on_continues : (old new : Kept) → Continues old new → GoesOnFrom old new
goes_on_continues old new c = record { program = c.program; budget = c.budget; watch = c.watch; more = c.more; items = c.items; exchanges = c.exchanges }

-- a hub that has taken a turn goes on
pub follows_given : (o : PlainOpening) (old : Kept) (t : Tid) (new : Kept) → OpenedBy o old → Given old t new → OpenedBy o new
follows_given o old t new p g =
    follows_on o old new p record {
      program = g.adds.program;
      budget = g.budget;
      watch = g.watch;
      more = item.Turn t ∷ [];
      items = g.adds.items;
      exchanges = (if_there (stands (text_of old.course.program) old.course.items), tt);
    }

-- whatever came of a slice, the hub goes on
pub follows_slice : (o : PlainOpening) (old : Kept) (ran : PlainRan) (r : Result (Unit {0}) GiveFault) (new : Kept) → OpenedBy o old → TakesSlice old ran r new
    → OpenedBy o new
follows_slice o old ran (Ok done) new p t = follows_given o old _ new p t.1
follows_slice o old ran (Err (Stranger back)) new p t = subst (λ (h : Kept). OpenedBy o h) (sym t.2) p
follows_slice o old ran (Err (Memory back)) new p t = subst (λ (h : Kept). OpenedBy o h) (sym t.2) p

pub went_after : (o : PlainOpening) (hub mid new : Kept) → opening_of hub ≡ o → OpenedBy o mid → GoesOnFrom mid new → GoesOnFrom hub new
went_after o hub mid new is p q = subst (λ (x : PlainOpening). OpenedBy x new) (sym is) (follows_on o mid new p q)

pub went : (o : PlainOpening) (hub new : Kept) → opening_of hub ≡ o → OpenedBy o new → GoesOnFrom hub new
went o hub new is p = subst (λ (x : PlainOpening). OpenedBy x new) (sym is) p

pub worked_after : (o : PlainOpening) (hub mid new : Kept) → opening_of hub ≡ o → OpenedBy o mid → IsWorked mid new → IsWorked hub new
worked_after o hub mid new is p w = record {
  goes_on = went_after o hub mid new is p w.goes_on;
  over_is = w.over_is;
  none_out = w.none_out;
  none_due = w.none_due;
}

-- a schedule that is no longer than that with which the run began is that one
pub nothing_more : (o : PlainOpening) (hub new : Kept) → opening_of hub ≡ o → OpenedBy o new
    → length new.course.items ≡ length hub.course.items → new.course.items ≡ hub.course.items
nothing_more o hub new is p e = same hub.course.items new.course.items (went o hub new is p).more (went o hub new is p).items e
  where
    none : (xs more : List Item) → length (xs ++ more) ≡ length xs → more ≡ []
    none [] [] e = refl
    none [] (x ∷ more) e = grind (arith)
    none (x ∷ xs) more e = none xs more (omega (arith, e))

    same : (xs ys more : List Item) → ys ≡ xs ++ more → length ys ≡ length xs → ys ≡ xs
    same xs ys more is e = is ∙ ap (λ m. xs ++ m) (none xs more (ap length (sym is) ∙ e)) ∙ append-nil xs

pub worked_over : (old new : Kept) (end : End) → Continues old new → IsOver end new → IsWorked old new
worked_over old new end c over = record {
  goes_on = goes_on_continues old new c;
  over_is = over.over_is;
  none_out = over.none_out;
  none_due = over.none_due;
}

-- nothing has happened
pub extends_same : (h : Kept) → Extends h h
extends_same h = record {
  continues = record {
    program = refl;
    budget = refl;
    watch = refl;
    more = [];
    items = sym (append-nil _);
    in_time = tt;
    exchanges = tt;
    made = [];
    reports = sym (append-nil _);
  };
  no_turn = λ k d below. absurd (omega arith);
}

-- the reports only grow
pub reports_continue : (old new : Kept) → Continues old new → BeginsWith new.reports old.reports
reports_continue old new c = (c.made, c.reports)

pub reports_after_slice : (old : Kept) (ran : PlainRan) (r : Result (Unit {0}) GiveFault) (new : Kept) → TakesSlice old ran r new → BeginsWith new.reports old.reports
reports_after_slice old ran (Ok done) new t = (t.1.made, t.1.reports)
reports_after_slice old ran (Err (Stranger back)) new t = ([], ap (λ (h : Kept). h.reports) t.2 ∙ sym (append-nil old.reports))
reports_after_slice old ran (Err (Memory back)) new t = ([], ap (λ (h : Kept). h.reports) t.2 ∙ sym (append-nil old.reports))
