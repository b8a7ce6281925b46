-- The rows that were taken are those that the chooser picked.
use Rattle.std.proofs.Common.{◌≡◌, ◌∙◌, ℕ, Bool, true, false, true≢false, List, [], ◌∷◌, ◌++◌, append-nil, append_assoc, inl, inr, Option, Some, None, Result, Ok, Err, refl, ap, sym, subst}
use Rattle.std.specs.Prelude.{IfOk, IfErr, IfSome, OnOk, OnErr, is_err}
use Rattle.cml_scan.specs.declared.meet.Meet.{Meet}
use Rattle.cml_schedule.specs.Reports.{PlainReport}
use Rattle.cml_schedule.specs.declared.item.Item.{Item}
use Rattle.cml_schedule.specs.declared.item.Item.TheVariants as item
use Rattle.cml_step.specs.Calls.{text_of}
use Rattle.cml_step.specs.Rans.{PlainRan}
use Rattle.cml_step.specs.Terms.{Program}
use Rattle.cml_value.specs.declared.number.Tid.{Tid}
use Rattle.cml_hub.specs.Courses.{run_of}
use Rattle.cml_hub.specs.Runs.{stands}
use Rattle.cml_hub.specs.Kept.{Kept, Given, TakesSlice}
use Rattle.cml_hub.specs.Playing.{Rules, Played, spent, row_taken, asked, EachPicked, Picks, PlaysPick, PlaysFurther, PlaysSome, PlaysUpTo, PlaysOut, PlaysSoFar, before_handing, playing, called_back}
use Rattle.cml_hub.specs.declared.fault.Next.{Next}
use Rattle.cml_hub.specs.declared.fault.Next.TheVariants as next
use Rattle.cml_hub.specs.declared.fault.GiveFault.{GiveFault}
use Rattle.cml_hub.specs.declared.fault.GiveFault.TheVariants.{Stranger, Memory}
use Rattle.cml_work.specs.Works.{PlainOpening, opening_of, IsCut, IsForeignFault}
use Rattle.cml_work.specs.Picks.{PicksRows, PicksOn, PicksSome, Picker, picker, picks_less, picks_after, EachBy, TakenBy, ChoosesBy, hub_in, hub_of_watched}
use Rattle.cml_work.specs.declared.fault.WorkFault.{WorkFault}
use Rattle.cml_work.specs.declared.fault.WorkFault.TheVariants as fault

-- ---- the picks of a chooser

left_spent : {C : Type 0} (rules : Rules C) (c : C) (o : Option Meet) → picker rules (spent rules c o) ≡ picks_less (picker rules c) o
left_spent rules c None = refl
left_spent rules c (Some row) = refl

left_asked : {C : Type 0} (rules : Rules C) (c : C) (more : List Item) → picker rules (asked rules c more) ≡ picks_after (picker rules c) more
left_asked rules c [] = refl
left_asked rules c (x ∷ more) =
    left_asked rules (spent rules c (row_taken x)) more ∙ ap (λ picks. picks_after picks more) (left_spent rules c (row_taken x))

each_by : {C : Type 0} (p : Program) (rules : Rules C) (c : C) (items more : List Item) → EachPicked p rules c items more → EachBy p (picker rules c) items more
each_by p rules c items [] h = tt
each_by p rules c items (x ∷ more) h =
    (h.0, subst (λ picks. EachBy p picks (items ++ x ∷ []) more) (left_spent rules c (row_taken x)) (each_by p rules (spent rules c (row_taken x)) (items ++ x ∷ []) more h.1))

by_each : {C : Type 0} (p : Program) (rules : Rules C) (c : C) (items more : List Item) → EachBy p (picker rules c) items more → EachPicked p rules c items more
by_each p rules c items [] h = tt
by_each p rules c items (x ∷ more) h = (
  h.0,
  by_each p rules (spent rules c (row_taken x)) (items ++ x ∷ []) more
      (subst (λ picks. EachBy p picks (items ++ x ∷ []) more) (sym (left_spent rules c (row_taken x))) h.1),
)

left_more : (picks : Picker) (xs ys : List Item) → picks_after picks (xs ++ ys) ≡ picks_after (picks_after picks xs) ys
left_more picks [] ys = refl
left_more picks (x ∷ xs) ys = left_more (picks_less picks (row_taken x)) xs ys

each_more : (p : Program) (picks : Picker) (items xs ys : List Item) → EachBy p picks items xs → EachBy p (picks_after picks xs) (items ++ xs) ys → EachBy p picks items (xs ++ ys)
each_more p picks items [] ys h k = subst (λ zs. EachBy p picks zs ys) (append-nil items) k
each_more p picks items (x ∷ xs) ys h k = (
  h.0,
  each_more p (picks_less picks (row_taken x)) (items ++ x ∷ []) xs ys h.1
      (subst (λ zs. EachBy p (picks_after picks (x ∷ xs)) zs ys) (sym (append_assoc items (x ∷ []) xs)) k),
)

-- ---- a hub that goes on

pub taken_itself : (o : PlainOpening) (picks : Picker) (h : Kept) → opening_of h ≡ o → TakenBy o picks h
taken_itself o picks h is = record {
  program = ap (λ (x : PlainOpening). x.program) is;
  more = [];
  items = ap (λ (x : PlainOpening). x.items) is ∙ sym (append-nil o.items);
  rows = tt;
}

pub chooses_itself : {C : Type 0} (rules : Rules C) (c : C) (o : PlainOpening) (picks : Picker) (h : Kept) → opening_of h ≡ o → picks ≡ picker rules c
    → ChoosesBy o picks h (picker rules c) false
unfolding taken_itself
chooses_itself rules c o picks h is at = record { taken = taken_itself o picks h is; left = λ going. sym at }

-- what the chooser picked was taken
more_taken : {C : Type 0} (rules : Rules C) (c : C) (o : PlainOpening) (picks : Picker) (mid new : Kept) (t : TakenBy o picks mid) → picker rules c ≡ picks_after picks t.more
    → new.course.program ≡ mid.course.program → PicksRows rules c mid new → TakenBy o picks new
more_taken rules c o picks mid new t left same k = record {
  program = same ∙ t.program;
  more = t.more ++ k.more;
  items = k.items ∙ ap (λ xs. xs ++ k.more) t.items ∙ append_assoc o.items t.more k.more;
  rows = each_more (text_of o.program) picks o.items t.more k.more t.rows
      (subst (λ x. EachBy (text_of o.program) x (o.items ++ t.more) k.more) left
      (subst (λ xs. EachBy (text_of o.program) (picker rules c) xs k.more) t.items
      (subst (λ p. EachBy (text_of p) (picker rules c) mid.course.items k.more) t.program
      (each_by (text_of mid.course.program) rules c mid.course.items k.more k.rows))));
}

-- what comes of a call: the chooser is to pick what is left; or memory ran out, and the workers are to stop
pub chose : {A E C : Type 0} (r : Result A E) (b : Bool) (rules : Rules C) (c last : C) (o : PlainOpening) (picks : Picker) (mid new : Kept) → b ≡ is_err r
    → ChoosesBy o picks mid (picker rules c) false → new.course.program ≡ mid.course.program → OnOk r (PicksOn rules mid c new last) → OnErr r (PicksSome rules mid c new)
    → ChoosesBy o picks new (picker rules last) b
unfolding more_taken
chose (Ok x) b rules c last o picks mid new is h same ok err =
    let left = h.left refl in
    record {
      taken = more_taken rules c o picks mid new h.taken left same ok.rows;
      left = λ going. ap (picker rules) ok.last_is ∙ left_asked rules c ok.rows.more ∙ ap (λ x. picks_after x ok.rows.more) left
          ∙ sym (left_more picks h.taken.more ok.rows.more);
    }
chose (Err e) b rules c last o picks mid new is h same ok err = record {
  taken = more_taken rules c o picks mid new h.taken (h.left refl) same err.picks.rows;
  left = λ going. absurd (true≢false (sym is ∙ going));
}

-- the workers are to stop
pub chooses_stopped : (o : PlainOpening) (picks now : Picker) (h : Kept) (b : Bool) → ChoosesBy o picks h now b → ChoosesBy o picks h now true
chooses_stopped o picks now h b k = record { taken = k.taken; left = λ going. absurd (true≢false going) }

-- a turn takes no row
chooses_given : (o : PlainOpening) (picks now : Picker) (b : Bool) (old : Kept) (t : Tid) (new : Kept) → ChoosesBy o picks old now b → Given old t new → ChoosesBy o picks new now b
chooses_given o picks now b old t new k g = record {
  taken = record {
    program = g.adds.program ∙ k.taken.program;
    more = k.taken.more ++ item.Turn t ∷ [];
    items = g.adds.items ∙ ap (λ xs. xs ++ item.Turn t ∷ []) k.taken.items ∙ append_assoc o.items k.taken.more (item.Turn t ∷ []);
    rows = each_more (text_of o.program) picks o.items k.taken.more (item.Turn t ∷ []) k.taken.rows (if_there (stands (text_of o.program) (o.items ++ k.taken.more)), tt);
  };
  left = λ going. k.left going ∙ sym (left_more picks k.taken.more (item.Turn t ∷ []));
}
  where
    if_there : {A : Type 0} (o : Option A) → IfSome o (λ x. Unit {0})
    if_there None = tt
    if_there (Some x) = tt

pub chooses_slice : (o : PlainOpening) (picks now : Picker) (b : Bool) (old : Kept) (ran : PlainRan) (r : Result (Unit {0}) GiveFault) (new : Kept) → ChoosesBy o picks old now b
    → TakesSlice old ran r new → ChoosesBy o picks new now b
chooses_slice o picks now b old ran (Ok done) new k t = chooses_given o picks now b old _ new k t.1
chooses_slice o picks now b old ran (Err (Stranger back)) new k t = subst (λ (h : Kept). ChoosesBy o picks h now b) (sym t.2) k
chooses_slice o picks now b old ran (Err (Memory back)) new k t = subst (λ (h : Kept). ChoosesBy o picks h now b) (sym t.2) k

-- ---- what the hub's calls say

pub on_err : {A E P : Type 0} (r : Result A E) → P → OnErr r P
on_err (Ok x) p = tt
on_err (Err e) p = p

pub picks_none : {C : Type 0} (rules : Rules C) (h : Kept) (c : C) → PicksSome rules h c h
picks_none rules h c = record { last = c; picks = record { rows = record { more = []; items = sym (append-nil h.course.items); rows = tt }; last_is = refl } }

picks_on : {C : Type 0} (rules : Rules C) (h new : Kept) (c last : C) → Picks (text_of h.course.program) rules (playing h c) (playing new last) → PicksOn rules h c new last
picks_on rules h new c last k = record { rows = record { more = k.more; items = k.items; rows = k.rows }; last_is = k.last }

-- where a machine is handed out, or none
before_on : {C : Type 0} (rules : Rules C) (h new : Kept) (c last : C) (n : Next) → Picks (text_of h.course.program) rules (playing h c) (before_handing n new last) → PicksOn rules h c new last
before_on rules h new c last (next.Job m) k = record { rows = record { more = k.more; items = k.items; rows = k.rows }; last_is = k.last }
before_on rules h new c last next.Wait k = picks_on rules h new c last k
before_on rules h new c last next.Ended k = picks_on rules h new c last k

pub up_to_on : {C : Type 0} (rules : Rules C) (h new : Kept) (c last : C) (n : Next)
    → ((p : Program) (budget : ℕ) (from to : Played C) → PlaysPick rules p budget from to) → stands (text_of h.course.program) h.course.items ≡ Some (run_of h.course)
    → PlaysUpTo rules h c n new last → PicksOn rules h c new last
up_to_on rules h new c last n law leads w = before_on rules h new c last n (law (text_of h.course.program) h.budget (playing h c) (before_handing n new last) leads w)

pub to_on : {C : Type 0} (rules : Rules C) (h new : Kept) (c last : C)
    → ((p : Program) (budget : ℕ) (from to : Played C) → PlaysPick rules p budget from to) → stands (text_of h.course.program) h.course.items ≡ Some (run_of h.course)
    → PlaysFurther rules h c new last → PicksOn rules h c new last
to_on rules h new c last law leads w = picks_on rules h new c last (law (text_of h.course.program) h.budget (playing h c) (playing new last) leads w)

pub some_on : {C : Type 0} (rules : Rules C) (h new : Kept) (c : C)
    → ((p : Program) (budget : ℕ) (from to : Played C) → PlaysPick rules p budget from to) → stands (text_of h.course.program) h.course.items ≡ Some (run_of h.course)
    → PlaysSome rules h c new → PicksSome rules h c new
some_on rules h new c law leads w = record { last = w.last; picks = to_on rules h new c w.last law leads w.plays }

pub ran_ok : {A E C : Type 0} (r : Result A E) (rules : Rules C) (h new : Kept) (c last : C)
    → ((p : Program) (budget : ℕ) (from to : Played C) → PlaysPick rules p budget from to) → stands (text_of h.course.program) h.course.items ≡ Some (run_of h.course)
    → OnOk r (PlaysFurther rules h c new last) → OnOk r (PicksOn rules h c new last)
ran_ok (Ok x) rules h new c last law leads w = to_on rules h new c last law leads w
ran_ok (Err e) rules h new c last law leads w = tt

pub ran_err : {A E C : Type 0} (r : Result A E) (rules : Rules C) (h new : Kept) (c : C)
    → ((p : Program) (budget : ℕ) (from to : Played C) → PlaysPick rules p budget from to) → stands (text_of h.course.program) h.course.items ≡ Some (run_of h.course)
    → OnErr r (PlaysSome rules h c new) → OnErr r (PicksSome rules h c new)
ran_err (Ok x) rules h new c law leads w = tt
ran_err (Err e) rules h new c law leads w = some_on rules h new c law leads w

-- the end of the run by one thread
rows_back : {C : Type 0} (rules : Rules C) (h new : Kept) (c last : C) → Picks (text_of h.course.program) rules (called_back h c) (playing new last) → PicksRows rules c h new
rows_back rules h new c last k = record { more = k.more; items = k.items; rows = k.rows }

pub out_rows : {C : Type 0} (rules : Rules C) (h new : Kept) (c last : C)
    → ((p : Program) (budget : ℕ) (from to : Played C) → PlaysPick rules p budget from to) → stands (text_of h.course.program) h.course.items ≡ Some (run_of h.course)
    → PlaysOut rules h c new last → PicksRows rules c h new
out_rows rules h new c last law leads w =
    rows_back rules h new c last (law (text_of h.course.program) h.budget (called_back h c) (playing new last) leads (record { items = h.budget; plays = w }))

pub so_far_rows : {C : Type 0} (rules : Rules C) (h new : Kept) (c : C)
    → ((p : Program) (budget : ℕ) (from to : Played C) → PlaysPick rules p budget from to) → stands (text_of h.course.program) h.course.items ≡ Some (run_of h.course)
    → PlaysSoFar rules h c new → PicksRows rules c h new
so_far_rows rules h new c law leads (inl w) =
    rows_back rules h new c w.last (law (text_of h.course.program) h.budget (called_back h c) (playing new w.last) leads (record { items = w.items; plays = w.plays }))
so_far_rows rules h new c law leads (inr same) = subst (λ (x : Kept). PicksRows rules c h x) (sym same) (picks_none rules h c).picks.rows

-- ---- the hub that comes back

pub ended_taken : {C : Type 0} (rules : Rules C) (c : C) (o : PlainOpening) (picks : Picker) (b : Bool) (mid new : Kept) → ChoosesBy o picks mid (picker rules c) b → b ≡ false
    → new.course.program ≡ mid.course.program → PicksRows rules c mid new → TakenBy o picks new
ended_taken rules c o picks b mid new h going same k = more_taken rules c o picks mid new h.taken (h.left going) same k

pub rows_of : {C : Type 0} (rules : Rules C) (c : C) (h new : Kept) → TakenBy (opening_of h) (picker rules c) new → PicksRows rules c h new
rows_of rules c h new t = record { more = t.more; items = t.items; rows = by_each (text_of h.course.program) rules c h.course.items t.more t.rows }

pub rows_from : {C : Type 0} (rules : Rules C) (c : C) (o : PlainOpening) (picks : Picker) (h new : Kept) → opening_of h ≡ o → picks ≡ picker rules c → TakenBy o picks new
    → PicksRows rules c h new
rows_from rules c o picks h new is at t =
    rows_of rules c h new (subst (λ x. TakenBy x (picker rules c) new) (sym is) (subst (λ x. TakenBy o x new) at t))

pub cut_hub : (h : Kept) (b : Bool) (f : WorkFault) → IsCut h b f → hub_in f ≡ h
cut_hub h b (fault.Count new) k = absurd k
cut_hub h b (fault.Memory new) k = k.0
cut_hub h b (fault.Start new) k = k.0
cut_hub h b (fault.Write new) k = k
cut_hub h b (fault.Foreign new seen) k = absurd k

foreign_hub : (h : Kept) (reports : List PlainReport) (f : WorkFault) → IsForeignFault h reports f → hub_in f ≡ h
foreign_hub h reports (fault.Count new) k = absurd k
foreign_hub h reports (fault.Memory new) k = absurd k
foreign_hub h reports (fault.Start new) k = absurd k
foreign_hub h reports (fault.Write new) k = absurd k
foreign_hub h reports (fault.Foreign new seen) k = k.0

-- the hub was compared with the reports that were seen
pub compared_hub : {A : Type 0} (h : Kept) (reports : List PlainReport) (r : Result (Kept × A) WorkFault) → IfOk r (λ x. x.0 ≡ h)
    → IfErr r (λ f. IsForeignFault h reports f) → hub_of_watched r ≡ h
compared_hub h reports (Ok x) ok err = ok
compared_hub h reports (Err f) ok err = foreign_hub h reports f err
