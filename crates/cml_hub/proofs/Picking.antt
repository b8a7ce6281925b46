-- The rows of a run that a chooser makes are those that it picks.
use Rattle.std.proofs.Common.{◌≡◌, ◌∙◌, ℕ, zero, suc, Bool, true, false, List, [], ◌∷◌, ◌++◌, append_assoc, Option, Some, None, refl, ap, sym, subst}
use Rattle.std.specs.Prelude.{if◌then◌else◌, IfSome, option_and_then, option_map, unwrap_or}
use Rattle.std.proofs.lemmas.List.{append-nil}
use Rattle.cml_value.specs.declared.number.Tid.{Tid}
use Rattle.cml_scan.specs.World.{PlainWorld}
use Rattle.cml_scan.specs.Scan.{scan}
use Rattle.cml_scan.specs.declared.meet.Meet.{Meet}
use Rattle.cml_book.specs.Swaps.{swaps}
use Rattle.cml_schedule.specs.declared.item.Item.{Item}
use Rattle.cml_schedule.specs.declared.item.Item.TheVariants.{Turn, Meet as Commit, Exchange, Clock}
use Rattle.cml_step.specs.Terms.{Program}
use Rattle.cml_hub.specs.Runs.{Run, opening, stands, stands_from, advance, next_alarm, over}
use Rattle.cml_hub.specs.Playing.{Rules, Played, picked, spent, taking, parties, ready_after, adds, moved_by, next_by, played}
use Rattle.cml_hub.specs.Playing.{PlaysFrom, row_taken, asked, EachPicked, Picks, PlaysPick}

-- one item after others
stands_last : (p : Program) (r : Option Run) (xs : List Item) (item : Item) → stands_from p r (xs ++ item ∷ []) ≡ option_and_then (λ now. advance p now item) (stands_from p r xs)
stands_last p r [] item = refl
stands_last p r (x ∷ xs) item = stands_last p (option_and_then (λ now. advance p now x) r) xs item

-- an item that was added
record Added {C : Type 0} (p : Program) (g : Played C) (item : Item) (c : C) (h : Played C) : Type 0 where
  pub run : advance p g.run item ≡ Some h.run
  pub items : h.items ≡ g.items ++ item ∷ []
  pub last : h.chooser ≡ c

added_at : {C : Type 0} (p : Program) (g : Played C) (item : Item) (queue : PlainWorld → List Tid) (c : C) (h : Played C) (o : Option Run) → advance p g.run item ≡ o
    → option_map (λ r. record { items = g.items ++ item ∷ []; run = r; queue = queue r.world; chooser = c }) o ≡ Some h → Added p g item c h
added_at p g item queue c h None at e = absurd (cc)
added_at p g item queue c h (Some r) at e =
    let made : Played _ = record { items = g.items ++ item ∷ []; run = r; queue = queue r.world; chooser = c } in
    let is : made ≡ h = cc in
    record {
      run = at ∙ ap (λ (x : Played _). Some x.run) is;
      items = ap (λ (x : Played _). x.items) (sym is);
      last = ap (λ (x : Played _). x.chooser) (sym is);
    }

added : {C : Type 0} (p : Program) (g : Played C) (item : Item) (queue : PlainWorld → List Tid) (c : C) (h : Played C) → adds p g item queue c ≡ Some h → Added p g item c h
added p g item queue c h e = added_at p g item queue c h (advance p g.run item) refl e

-- ---- what was picked on the way

picks_self : {C : Type 0} (p : Program) (rules : Rules C) (g : Played C) → Picks p rules g g
picks_self p rules g = record { more = []; items = sym (append-nil g.items); rows = tt; last = refl }

asked_more : {C : Type 0} (rules : Rules C) (c : C) (xs ys : List Item) → asked rules c (xs ++ ys) ≡ asked rules (asked rules c xs) ys
asked_more rules c [] ys = refl
asked_more rules c (x ∷ xs) ys = asked_more rules (spent rules c (row_taken x)) xs ys

each_more : {C : Type 0} (p : Program) (rules : Rules C) (c : C) (items xs ys : List Item) → EachPicked p rules c items xs
    → EachPicked p rules (asked rules c xs) (items ++ xs) ys → EachPicked p rules c items (xs ++ ys)
each_more p rules c items [] ys h k = subst (λ zs. EachPicked p rules c zs ys) (append-nil items) k
each_more p rules c items (x ∷ xs) ys h k = (
  h.0,
  each_more p rules (spent rules c (row_taken x)) (items ++ x ∷ []) xs ys h.1
      (subst (λ zs. EachPicked p rules (asked rules c (x ∷ xs)) zs ys) (sym (append_assoc items (x ∷ []) xs)) k),
)

pub picks_more : {C : Type 0} (p : Program) (rules : Rules C) (a b d : Played C) → Picks p rules a b → Picks p rules b d → Picks p rules a d
picks_more p rules a b d k m = record {
  more = k.more ++ m.more;
  items = m.items ∙ (ap (λ xs. xs ++ m.more) k.items ∙ append_assoc a.items k.more m.more);
  rows = each_more p rules a.chooser a.items k.more m.more k.rows
      (subst (λ c. EachPicked p rules c (a.items ++ k.more) m.more) k.last (subst (λ xs. EachPicked p rules b.chooser xs m.more) k.items m.rows));
  last = m.last ∙ (ap (λ c. asked rules c m.more) k.last ∙ sym (asked_more rules a.chooser k.more m.more));
}

-- ---- one item

-- where it stands, and what was picked there
record Step {C : Type 0} (p : Program) (rules : Rules C) (g h : Played C) : Type 0 where
  pub leads : stands p h.items ≡ Some h.run
  pub picks : Picks p rules g h

one : {C : Type 0} (p : Program) (rules : Rules C) (g h : Played C) (item : Item) (c : C) → stands p g.items ≡ Some g.run → Added p g item c h
    → c ≡ spent rules g.chooser (row_taken item) → IfSome (row_taken item) (λ row. picked rules g.chooser (scan g.run.world) ≡ Some row) → Step p rules g h
one p rules g h item c leads a is picks = record {
  leads = ap (stands p) a.items ∙ stands_last p (Some (opening p)) g.items item ∙ ap (option_and_then (λ now. advance p now item)) leads ∙ a.run;
  picks = record { more = item ∷ []; items = a.items; rows = (rw leads picks, tt); last = a.last ∙ is };
}

taken_row : (b : Bool) (row : Meet) → row_taken (if b then Exchange row else Commit row) ≡ Some row
taken_row true row = refl
taken_row false row = refl

ticked_one : {C : Type 0} (p : Program) (rules : Rules C) (g h : Played C) (o : Option ℕ) → stands p g.items ≡ Some g.run
    → option_and_then (λ tick. adds p g (Clock tick) (λ w. g.queue) g.chooser) o ≡ Some h → Step p rules g h
ticked_one p rules g h None leads e = absurd (cc)
ticked_one p rules g h (Some tick) leads e = one p rules g h (Clock tick) g.chooser leads (added p g (Clock tick) (λ w. g.queue) g.chooser h e) refl tt

moved_one : {C : Type 0} (p : Program) (rules : Rules C) (g h : Played C) (o : Option Meet) → stands p g.items ≡ Some g.run → picked rules g.chooser (scan g.run.world) ≡ o
    → moved_by p rules g o ≡ Some h → Step p rules g h
moved_one p rules g h (Some row) leads at e =
    let is : row_taken (taking g.run.world row) ≡ Some row = taken_row (swaps g.run.world row) row in
    one p rules g h (taking g.run.world row) (spent rules g.chooser (Some row)) leads
    (added p g (taking g.run.world row) (λ w. g.queue ++ parties row) (spent rules g.chooser (Some row)) h e)
    (ap (spent rules g.chooser) (sym is)) (subst (λ o. IfSome o (λ r. picked rules g.chooser (scan g.run.world) ≡ Some r)) (sym is) at)
moved_one p rules g h None leads at e = ticked_one p rules g h (next_alarm g.run.world) leads e

next_one : {C : Type 0} (p : Program) (rules : Rules C) (g h : Played C) (q : List Tid) → stands p g.items ≡ Some g.run → next_by p rules g q ≡ Some h → Step p rules g h
next_one p rules g h [] leads e = moved_one p rules g h (picked rules g.chooser (scan g.run.world)) leads refl e
next_one p rules g h (t ∷ rest) leads e =
    one p rules g h (Turn t) g.chooser leads (added p g (Turn t) (λ w. rest ++ ready_after g.run.world w t) g.chooser h e) refl tt

-- ---- so many items

going_on : {C : Type 0} (p : Program) (rules : Rules C) (g : Played C) (o : Option (Played C)) (F : Played C → Played C) → stands p g.items ≡ Some g.run → next_by p rules g g.queue ≡ o
    → ((x : Played C) → stands p x.items ≡ Some x.run → Picks p rules x (F x)) → Picks p rules g (F (unwrap_or o g))
going_on p rules g None F leads e more = more g leads
going_on p rules g (Some h) F leads e more =
    let s : Step p rules g h = next_one p rules g h g.queue leads e in
    picks_more p rules g h (F h) s.picks (more h s.leads)

if_over : {C : Type 0} (p : Program) (rules : Rules C) (g h : Played C) (b : Bool) → Picks p rules g h → Picks p rules g (if b then g else h)
if_over p rules g h true k = picks_self p rules g
if_over p rules g h false k = k

played_picks : {C : Type 0} (p : Program) (budget : ℕ) (rules : Rules C) (n : ℕ) (g : Played C) → stands p g.items ≡ Some g.run → Picks p rules g (played p budget rules n g)
played_picks p budget rules zero g leads = picks_self p rules g
played_picks p budget rules (suc n) g leads =
    if_over p rules g (played p budget rules n (unwrap_or (next_by p rules g g.queue) g)) (over budget g.run)
    (going_on p rules g (next_by p rules g g.queue) (played p budget rules n) leads refl (played_picks p budget rules n))

pub plays_pick : {C : Type 0} (rules : Rules C) (p : Program) (budget : ℕ) (from to : Played C) → PlaysPick rules p budget from to
plays_pick rules p budget from to leads w = subst (λ x. Picks p rules from x) (sym w.plays) (played_picks p budget rules w.items from leads)
