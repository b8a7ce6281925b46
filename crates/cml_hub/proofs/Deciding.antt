-- What the tests of a hub decide, and what is handed out.
use Rattle.std.proofs.Common.{◌≡◌, ℕ, Bool, true, false, not, ◌&&◌, List, [], refl, arith, Some, None, sym, ap, ◌∙◌, subst}
use Rattle.std.specs.Prelude.{Option, Result, Ok, Err, OnOk, OnErr, ◌==◌}
use Rattle.std.specs.List.{list_any}
use Rattle.std.specs.Option.{is_some}
use Rattle.std.proofs.lemmas.Bool.Decides.{nat_tests}
use Rattle.cml_scan.specs.World.{PlainWorld, PlainThread}
use Rattle.cml_scan.specs.Scan.{scan}
use Rattle.cml_scan.specs.declared.meet.Meet.{Meet}
use Rattle.cml_book.specs.Walks.{runs}
use Rattle.cml_schedule.specs.declared.item.Item.{Item}
use Rattle.cml_schedule.specs.declared.item.Item.TheVariants.{Clock}
use Rattle.cml_hub.specs.declared.ready_queue.Mark.{Mark}
use Rattle.cml_hub.specs.ReadyQueue.{is_here}
use Rattle.cml_hub.specs.Runs.{any_runs, is_empty, has_number, is_none, next_alarm, is_allowed, terminal}
use Rattle.cml_hub.specs.Courses.{Adds}
use Rattle.cml_hub.specs.Kept.{Kept, Placed}
use Rattle.cml_hub.specs.Moves.{AddsItem, Reported}
use Rattle.cml_hub.proofs.Marking.{placed_any}

-- whether some thread runs, by the marks
pub idle_is : (ts : List PlainThread) (ms : List Mark) (i : Bool) → Placed ts ms → i ≡ not (list_any is_here ms) → i ≡ not (list_any runs ts)
idle_is ts ms i p e = e ∙ ap not (placed_any ts ms p)

not_true : (b i : Bool) → i ≡ not b → i ≡ true → b ≡ false
not_true true i e h = cc
not_true false i e h = refl

not_false : (b i : Bool) → i ≡ not b → i ≡ false → b ≡ true
not_false true i e h = refl
not_false false i e h = cc

pub none_runs : (ts : List PlainThread) (ms : List Mark) (i : Bool) → Placed ts ms → i ≡ not (list_any is_here ms) → i ≡ true → list_any runs ts ≡ false
none_runs ts ms i p e h = not_true (list_any runs ts) i (idle_is ts ms i p e) h

pub some_runs : (ts : List PlainThread) (ms : List Mark) (i : Bool) → Placed ts ms → i ≡ not (list_any is_here ms) → i ≡ false → list_any runs ts ≡ true
some_runs ts ms i p e h = not_false (list_any runs ts) i (idle_is ts ms i p e) h

-- whether nothing is left to do
none_is : (o : Option ℕ) (r : Bool) → is_some o ≡ not r → r ≡ is_none o
none_is None true h = refl
none_is None false h = cc
none_is (Some n) true h = cc
none_is (Some n) false h = refl

pub terminal_then : (w : PlainWorld) (i e r : Bool) (o : Option ℕ) → i ≡ not (any_runs w) → e ≡ (i && is_empty (scan w)) → e ≡ true → o ≡ next_alarm w → is_some o ≡ not r → r ≡ terminal w
terminal_then w i e r o idle both holds alarm h =
    let k : (not (any_runs w) && is_empty (scan w)) ≡ true = sym (ap (λ b. b && is_empty (scan w)) idle) ∙ (sym both ∙ holds) in
    none_is o r h ∙ (ap is_none alarm ∙ sym (ap (λ b. b && is_none (next_alarm w)) k))

pub terminal_else : (w : PlainWorld) (i e : Bool) → i ≡ not (any_runs w) → e ≡ (i && is_empty (scan w)) → e ≡ false → e ≡ terminal w
terminal_else w i e idle both stop =
    let k : (not (any_runs w) && is_empty (scan w)) ≡ false = sym (ap (λ b. b && is_empty (scan w)) idle) ∙ (sym both ∙ stop) in
    stop ∙ sym (ap (λ b. b && is_none (next_alarm w)) k)

all_three : (a b c : Bool) → a ≡ true → b ≡ true → c ≡ true → ((a && b) && c) ≡ true
all_three a b c p q r = rw (p, q, r) refl

number_self : (n : ℕ) → (n == n) ≡ true
number_self n = grind (arith, nat_tests)

empty_is : (rows : List Meet) → rows ≡ [] → is_empty rows ≡ true
empty_is rows e = rw e refl

-- the tick is allowed
pub tick_allowed : (w : PlainWorld) (tick : ℕ) → Some tick ≡ next_alarm w → any_runs w ≡ false → scan w ≡ [] → is_allowed w (Clock tick) ≡ true
tick_allowed w tick alarm idle still =
    all_three (has_number (next_alarm w) tick) (not (any_runs w)) (is_empty (scan w))
    (subst (λ o. has_number o tick ≡ true) alarm (number_self tick)) (ap not idle) (empty_is (scan w) still)

-- nothing is left to do
pub has_nothing_left : (w : PlainWorld) → None ≡ next_alarm w → any_runs w ≡ false → scan w ≡ [] → terminal w ≡ true
has_nothing_left w alarm idle still =
    all_three (not (any_runs w)) (is_empty (scan w)) (is_none (next_alarm w)) (ap not idle) (empty_is (scan w) still) (subst (λ o. is_none o ≡ true) alarm refl)

-- what follows where it went well
pub on_ok : {T E : Type 0} {A B : Type 0} (r : Result T E) → (A → B) → OnOk r A → OnOk r B
on_ok (Ok x) f h = f h
on_ok (Err x) f h = tt

pub in_both : {T E : Type 0} {A B C : Type 0} (r : Result T E) → (A → C) → (B → C) → OnOk r A → OnErr r B → C
in_both (Ok x) f g h k = f h
in_both (Err x) f g h k = g k

pub adds_then : (a b c : Kept) (item : Item) → AddsItem a item b → Reported b c → Adds a.course item c.course
adds_then a b c item m r = subst (λ x. Adds a.course item x) (sym r.course) m.adds
