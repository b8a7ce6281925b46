-- The run that a chooser makes, step by step.
use Rattle.std.proofs.Common.{◌≡◌, ℕ, zero, suc, ◌+◌, ◌<◌, ◌≤◌, Bool, true, false, nat_eq, List, [], ◌∷◌, ◌++◌}
use Rattle.std.proofs.Common.{length, refl, ap, sym, subst, ◌∙◌, arith, Option, Some, None, length-set}
use Rattle.std.proofs.Common.{length-append, append_assoc, add-one}
use Rattle.std.specs.Prelude.{slice_get, slice_set, option_and_then, unwrap_or}
use Rattle.std.specs.Option.{option_map_or}
use Rattle.std.proofs.lemmas.Bool.Decides.{nat_tests}
use Rattle.cml_value.specs.declared.number.Tid.{Tid}
use Rattle.cml_scan.specs.World.{PlainThread, running, PlainWorld}
use Rattle.cml_scan.specs.Scan.{scan}
use Rattle.cml_scan.specs.declared.meet.Meet.{Meet}
use Rattle.cml_book.specs.Swaps.{swaps}
use Rattle.cml_book.specs.Walks.{runs, is_running}
use Rattle.cml_schedule.specs.declared.item.Item.{Item}
use Rattle.cml_schedule.specs.declared.item.Item.TheVariants.{Turn, Meet as Commit, Exchange, Clock}
use Rattle.cml_step.specs.Calls.{text_of}
use Rattle.cml_step.specs.Terms.{Program}
use Rattle.cml_hub.specs.declared.done.AfterTurn.{AfterTurn}
use Rattle.cml_hub.specs.declared.done.AfterTurn.TheVariants as gone_of
use Rattle.cml_hub.specs.ReadyQueue.{left_by, those_out}
use Rattle.cml_hub.specs.Runs.{Run, opening, stands, advance, next_alarm, over}
use Rattle.cml_hub.specs.Dones.{ThreadsAfter}
use Rattle.cml_hub.specs.Courses.{PlainCourse, run_of}
use Rattle.cml_hub.specs.Kept.{Kept, Continues, is_out_of}
use Rattle.cml_hub.specs.Moves.{lines_up, AddsItem, Reported, CalledBack, HandedOut, LeavesFirst, MovedOn}
use Rattle.cml_hub.specs.Playing.{Rules, Played, picked, spent, taking, parties, ready_after, adds, moved_by}
use Rattle.cml_hub.specs.Playing.{next_by, played, playing, called_back, GoesBy, GoesIfLeftBy, MovesBy, PlaysOut}
use Rattle.cml_hub.specs.Playing.{PlaysOn, PlaysFurther, PlaysSome, PlaysUpTo, before_handing, BeginsRun}
use Rattle.cml_step.specs.Machines.{PlainMachine}
use Rattle.cml_hub.specs.declared.fault.Next.TheVariants as next
use Rattle.cml_hub.proofs.Queueing.{left_first}

-- who is ready after a turn, by what became of the thread and by the worlds
same_count : (m n : ℕ) → n ≡ m → nat_eq n m ≡ true
same_count m n e = grind (arith, nat_tests)

more_count : (m n : ℕ) → n ≡ m + 1 → nat_eq n m ≡ false
more_count m n e = grind (arith, nat_tests)

get_kept : {X : Type 0} (xs ys : List X) (i : ℕ) (x : X) → slice_get xs i ≡ Some x → slice_get (xs ++ ys) i ≡ Some x
get_kept [] ys i x h = cc
get_kept (y ∷ xs) ys zero x h = h
get_kept (y ∷ xs) ys (suc i) x h = get_kept xs ys i x h

get_set : {X : Type 0} (xs : List X) (i : ℕ) (x y : X) → slice_get xs i ≡ Some x → slice_get (slice_set xs i y) i ≡ Some y
get_set [] i x y h = cc
get_set (z ∷ xs) zero x y h = refl
get_set (z ∷ xs) (suc i) x y h = get_set xs i x y h

tells_running : (w : PlainWorld) (t : ℕ) (x : PlainThread) → slice_get w.threads t ≡ Some x → is_running w t ≡ runs x
tells_running w t x h = ap (λ o. option_map_or runs o false) h

pub ready_turned : (old new : PlainWorld) (t : Tid) (g : AfterTurn) → slice_get old.threads t.0 ≡ Some running → ThreadsAfter t.0 g old.threads new.threads
    → lines_up t g ≡ ready_after old new t
ready_turned old new t gone_of.On run after =
    let n : nat_eq (length new.threads) (length old.threads) ≡ true = same_count (length old.threads) (length new.threads) (ap length after) in
    let r : is_running new t.0 ≡ true = tells_running new t.0 running (ap (λ ts. slice_get ts t.0) after ∙ run) in
    rw (n, r) refl
ready_turned old new t (gone_of.With child) run after =
    let n : nat_eq (length new.threads) (length old.threads) ≡ false =
    more_count (length old.threads) (length new.threads) (ap length after.1 ∙ length-append old.threads (running ∷ [])) in
    let r : is_running new t.0 ≡ true = tells_running new t.0 running (ap (λ ts. slice_get ts t.0) after.1 ∙ get_kept old.threads (running ∷ []) t.0 running run) in
    let first : child ≡ record { 0 = length old.threads } = ap (λ (k : ℕ). record { 0 = k }) after.0 in
    rw (n, r) (ap (λ x. x ∷ t ∷ []) first)
ready_turned old new t gone_of.Off run after =
    let n : nat_eq (length new.threads) (length old.threads) ≡ true =
    same_count (length old.threads) (length new.threads) (ap length after.2 ∙ length-set old.threads t.0 after.0) in
    let r : is_running new t.0 ≡ false =
    tells_running new t.0 after.0 (ap (λ ts. slice_get ts t.0) after.2 ∙ get_set old.threads t.0 running after.0 run) ∙ after.1 in
    rw (n, r) refl

-- one after another at the end of the queue
pub two_last : (q : List Tid) (a b : Tid) → (q ++ a ∷ []) ++ b ∷ [] ≡ q ++ a ∷ b ∷ []
two_last q a b = append_assoc q (a ∷ []) (b ∷ [])

-- an item was added
adds_is : {C : Type 0} (p : Program) (g : Played C) (item : Item) (queue : PlainWorld → List Tid) (c : C) (r : Run) (items : List Item) (q : List Tid)
    → advance p g.run item ≡ Some r → items ≡ g.items ++ item ∷ [] → q ≡ queue r.world
    → adds p g item queue c ≡ Some (record { items = items; run = r; queue = q; chooser = c })
adds_is p g item queue c r items q a i e = rw (a, i, e) refl

turn_at : {C : Type 0} (rules : Rules C) (old new : Kept) (c : C) (t : Tid) (q : List Tid) → Some t ≡ slice_get q 0 → AddsItem old (Turn t) new
    → new.queue ≡ left_by t.0 q ++ ready_after old.course.world new.course.world t
    → next_by (text_of old.course.program) rules (playing old c) q ≡ Some (playing new c)
turn_at rules old new c t [] first m e = cc
turn_at rules old new c t (x ∷ rest) first m e =
    let is : t ≡ x = cc in
    let run = subst (λ (y : Tid). advance (text_of old.course.program) (run_of old.course) (Turn y) ≡ Some (run_of new.course)) is m.adds.run in
    let items = subst (λ (y : Tid). new.course.items ≡ old.course.items ++ Turn y ∷ []) is m.adds.items in
    let queue = subst (λ (y : Tid). new.queue ≡ left_by y.0 (x ∷ rest) ++ ready_after old.course.world new.course.world y) is e in
    adds_is (text_of old.course.program) (playing old c) (Turn x) (λ w. rest ++ ready_after old.course.world w x) c (run_of new.course) new.course.items new.queue
    run items (queue ∙ ap (λ l. l ++ ready_after old.course.world new.course.world x) (left_first x rest))

-- a turn of the thread that is ready first
pub turn_goes : {C : Type 0} (rules : Rules C) (old new : Kept) (c : C) (t : Tid) → Some t ≡ slice_get old.queue 0 → AddsItem old (Turn t) new
    → new.queue ≡ left_by t.0 old.queue ++ ready_after old.course.world new.course.world t → GoesBy rules old c new c
turn_goes rules old new c t first m e = turn_at rules old new c t old.queue first m e

-- the item that takes the row
pub taking_swap : (w : PlainWorld) (row : Meet) (item : Item) → swaps w row ≡ true → item ≡ Exchange row → item ≡ taking w row
taking_swap w row item s e = rw s e

pub taking_row : (w : PlainWorld) (row : Meet) (item : Item) → swaps w row ≡ false → item ≡ Commit row → item ≡ taking w row
taking_row w row item s e = rw s e

-- a row that was picked
pub row_moves : {C : Type 0} (rules : Rules C) (old new : Kept) (c last : C) (row : Meet) (item : Item) → Some row ≡ picked rules c (scan old.course.world)
    → item ≡ taking old.course.world row → AddsItem old item new → new.queue ≡ old.queue ++ parties row → last ≡ spent rules c (Some row)
    → MovesBy rules old c true new last
row_moves rules old new c last row item at is m q s =
    let run = subst (λ (i : Item). advance (text_of old.course.program) (run_of old.course) i ≡ Some (run_of new.course)) is m.adds.run in
    let items = subst (λ (i : Item). new.course.items ≡ old.course.items ++ i ∷ []) is m.adds.items in
    subst (λ (o : Option Meet). moved_by (text_of old.course.program) rules (playing old c) o ≡ Some (playing new last)) at
    (subst (λ x. adds (text_of old.course.program) (playing old c) (taking old.course.world row) (λ w. old.queue ++ parties row) (spent rules c (Some row)) ≡ Some (playing new x)) (sym s)
    (adds_is (text_of old.course.program) (playing old c) (taking old.course.world row) (λ w. old.queue ++ parties row)
    (spent rules c (Some row)) (run_of new.course) new.course.items new.queue run items q))

-- the time moved
pub tick_moves : {C : Type 0} (rules : Rules C) (old new : Kept) (c last : C) (tick : ℕ) → None ≡ picked rules c (scan old.course.world)
    → Some tick ≡ next_alarm old.course.world → AddsItem old (Clock tick) new → new.queue ≡ old.queue → last ≡ spent rules c None
    → MovesBy rules old c true new last
tick_moves rules old new c last tick at is m q s =
    subst (λ (o : Option Meet). moved_by (text_of old.course.program) rules (playing old c) o ≡ Some (playing new last)) at
    (subst (λ (a : Option ℕ). option_and_then (λ k. adds (text_of old.course.program) (playing old c) (Clock k) (λ w. old.queue) c) a ≡ Some (playing new last)) is
    (subst (λ x. adds (text_of old.course.program) (playing old c) (Clock tick) (λ w. old.queue) c ≡ Some (playing new x)) (sym s)
    (adds_is (text_of old.course.program) (playing old c) (Clock tick) (λ w. old.queue) c (run_of new.course) new.course.items new.queue m.adds.run m.adds.items q)))

move_at : {C : Type 0} (rules : Rules C) (old new : Kept) (c last : C) (q : List Tid) → None ≡ slice_get q 0 → MovesBy rules old c true new last
    → next_by (text_of old.course.program) rules (playing old c) q ≡ Some (playing new last)
move_at rules old new c last [] first m = m
move_at rules old new c last (x ∷ q) first m = cc

-- no thread was ready
pub move_goes : {C : Type 0} (rules : Rules C) (old new : Kept) (c last : C) → None ≡ slice_get old.queue 0 → MovesBy rules old c true new last
    → GoesBy rules old c new last
move_goes rules old new c last first m = move_at rules old new c last old.queue first m

pub moved_goes : {C : Type 0} (rules : Rules C) (old new : Kept) (c last : C) (moved : Bool) → None ≡ slice_get old.queue 0 → MovesBy rules old c moved new last
    → GoesIfLeftBy rules old c moved new last
moved_goes rules old new c last true first m = move_goes rules old new c last first m
moved_goes rules old new c last false first m = m

-- ---- so many items

over_one : {C : Type 0} (p : Program) (budget : ℕ) (rules : Rules C) (n : ℕ) (g : Played C) → over budget g.run ≡ true → played p budget rules (suc n) g ≡ g
over_one p budget rules n g o = rw o refl

going_one : {C : Type 0} (p : Program) (budget : ℕ) (rules : Rules C) (n : ℕ) (g : Played C) → over budget g.run ≡ false
    → played p budget rules (suc n) g ≡ played p budget rules n (unwrap_or (next_by p rules g g.queue) g)
going_one p budget rules n g o = rw o refl

-- one more
one_step : {C : Type 0} (p : Program) (budget : ℕ) (rules : Rules C) (n : ℕ) (g h k : Played C) (b : Bool) → over budget g.run ≡ b → played p budget rules (suc n) g ≡ h
    → over budget h.run ≡ false
    → (played p budget rules n (unwrap_or (next_by p rules g g.queue) g) ≡ h → played p budget rules (suc n) (unwrap_or (next_by p rules g g.queue) g) ≡ k)
    → played p budget rules (suc (suc n)) g ≡ k
one_step p budget rules n g h k true e is o more =
    let same : g ≡ h = sym (over_one p budget rules n g e) ∙ is in
    let no : over budget g.run ≡ false = ap (λ (x : Played _). over budget x.run) same ∙ o in
    absurd (cc)
one_step p budget rules n g h k false e is o more = going_one p budget rules (suc n) g e ∙ more (sym (going_one p budget rules n g e) ∙ is)

played_one : {C : Type 0} (p : Program) (budget : ℕ) (rules : Rules C) (n : ℕ) (g h k : Played C) → played p budget rules n g ≡ h → over budget h.run ≡ false
    → next_by p rules h h.queue ≡ Some k → played p budget rules (suc n) g ≡ k
played_one p budget rules zero g h k is o next =
    let still : over budget g.run ≡ false = ap (λ (x : Played _). over budget x.run) is ∙ o in
    let step : next_by p rules g g.queue ≡ Some k = ap (λ (x : Played _). next_by p rules x x.queue) is ∙ next in
    going_one p budget rules zero g still ∙ ap (λ x. unwrap_or x g) step
played_one p budget rules (suc n) g h k is o next =
    one_step p budget rules n g h k (over budget g.run) refl is o (λ at. played_one p budget rules n (unwrap_or (next_by p rules g g.queue) g) h k at o next)

pub played_more : {C : Type 0} (p : Program) (budget : ℕ) (rules : Rules C) (n : ℕ) (g h k : Played C) → h ≡ played p budget rules n g → over budget h.run ≡ false
    → next_by p rules h h.queue ≡ Some k → k ≡ played p budget rules (n + 1) g
played_more p budget rules n g h k is o next = rw add-one (sym (played_one p budget rules n g h k (sym is) o next))

-- once it is over nothing more happens
played_over : {C : Type 0} (p : Program) (budget : ℕ) (rules : Rules C) (n : ℕ) (g : Played C) → over budget g.run ≡ true → played p budget rules n g ≡ g
played_over p budget rules zero g o = refl
played_over p budget rules (suc n) g o = over_one p budget rules n g o

out_step : {C : Type 0} (p : Program) (budget : ℕ) (rules : Rules C) (n m : ℕ) (g h : Played C) (b : Bool) → over budget g.run ≡ b → h ≡ played p budget rules (suc n) g
    → (h ≡ played p budget rules n (unwrap_or (next_by p rules g g.queue) g) → h ≡ played p budget rules m (unwrap_or (next_by p rules g g.queue) g))
    → h ≡ played p budget rules (suc m) g
out_step p budget rules n m g h true e is more = is ∙ over_one p budget rules n g e ∙ sym (over_one p budget rules m g e)
out_step p budget rules n m g h false e is more = more (is ∙ going_one p budget rules n g e) ∙ sym (going_one p budget rules m g e)

pub played_out : {C : Type 0} (p : Program) (budget : ℕ) (rules : Rules C) (n m : ℕ) (g h : Played C) → h ≡ played p budget rules n g → n ≤ m → over budget h.run ≡ true
    → h ≡ played p budget rules m g
played_out p budget rules zero m g h is le o =
    is ∙ sym (played_over p budget rules m g (ap (λ (x : Played _). over budget x.run) (sym is) ∙ o))
played_out p budget rules (suc n) zero g h is le o = absurd (omega (arith, le))
played_out p budget rules (suc n) (suc m) g h is le o =
    out_step p budget rules n m g h (over budget g.run) refl is (λ at. played_out p budget rules n m (unwrap_or (next_by p rules g g.queue) g) h at (omega (arith, le)) o)

-- ---- the hub on its way

-- it has come so far from there, by no more items than it has used of the budget
pub record Way {C : Type 0} (rules : Rules C) (old : Kept) (from : Played C) (new : Kept) (last : C) : Type 0 where
  pub items : ℕ
  pub plays : playing new last ≡ played (text_of old.course.program) old.budget rules items from
  pub few : items ≤ new.course.used
  pub within : items ≤ old.budget

-- a report shows, and changes nothing of it
playing_reported : {C : Type 0} (a b : Kept) (c : C) → Reported a b → playing b c ≡ playing a c
playing_reported a b c r =
    ap (λ (x : PlainCourse). record { items = x.items; run = run_of x; queue = b.queue; chooser = c }) r.course
    ∙ ap (λ (q : List Tid). record { items = a.course.items; run = run_of a.course; queue = q; chooser = c }) r.queue

pub way_self : {C : Type 0} (rules : Rules C) (h : Kept) (c : C) → Way rules h (playing h c) h c
way_self rules h c = record { items = 0; plays = refl; few = omega arith; within = omega arith }

pub way_called : {C : Type 0} (rules : Rules C) (h a : Kept) (c : C) → CalledBack h a → Way rules h (called_back h c) a c
way_called rules h a c k = record {
  items = 0;
  plays = ap (λ (x : PlainCourse). record { items = x.items; run = run_of x; queue = a.queue; chooser = c }) k.course
      ∙ ap (λ (q : List Tid). record { items = h.course.items; run = run_of h.course; queue = q; chooser = c }) k.queue;
  few = omega arith;
  within = omega arith;
}

pub way_reported : {C : Type 0} (rules : Rules C) (h a b : Kept) (from : Played C) (last : C) → Way rules h from a last → Reported a b → Way rules h from b last
way_reported rules h a b from last w r = record {
  items = w.items;
  plays = playing_reported a b last r ∙ w.plays;
  few = omega (arith, w.few, ap (λ (x : PlainCourse). x.used) r.course);
  within = w.within;
}

pub way_same : {C : Type 0} (rules : Rules C) (h a b : Kept) (from : Played C) (last : C) → Way rules h from a last → b ≡ a → Way rules h from b last
way_same rules h a b from last w same = subst (λ (x : Kept). Way rules h from x last) (sym same) w

-- one item more
pub way_more : {C : Type 0} (rules : Rules C) (h a b : Kept) (from : Played C) (mid last : C) (item : Item) → Way rules h from a mid → Continues h a → over a.budget (run_of a.course) ≡ false
    → a.course.used < a.budget → GoesBy rules a mid b last → AddsItem a item b → Way rules h from b last
way_more rules h a b from mid last item w e o left goes m =
    let budget : a.budget ≡ h.budget = e.budget in
    let going : over h.budget (run_of a.course) ≡ false = ap (λ n. over n (run_of a.course)) (sym budget) ∙ o in
    let next = subst (λ p. next_by (text_of p) rules (playing a mid) a.queue ≡ Some (playing b last)) e.program goes in
    record {
      items = w.items + 1;
      plays = played_more (text_of h.course.program) h.budget rules w.items from (playing a mid) (playing b last) w.plays going next;
      few = omega (arith, w.few, m.used);
      within = omega (arith, w.few, left, budget);
    }

pub way_on : {C : Type 0} (rules : Rules C) (h a b : Kept) (c last : C) → Way rules h (called_back h c) a last → b ≡ a → PlaysOn rules h c b
way_on rules h a b c last w same = record {
  items = w.items;
  last = last;
  plays = ap (λ (x : Kept). playing x last) same ∙ w.plays;
}

pub way_out : {C : Type 0} (rules : Rules C) (h a : Kept) (c last : C) → Way rules h (called_back h c) a last → Continues h a → over a.budget (run_of a.course) ≡ true
    → PlaysOut rules h c a last
way_out rules h a c last w e o =
    let done : over h.budget (run_of a.course) ≡ true = ap (λ n. over n (run_of a.course)) (sym e.budget) ∙ o in
    played_out (text_of h.course.program) h.budget rules w.items h.budget (called_back h c) (playing a last) w.plays w.within done

-- the same, where nothing was left to do
pub way_quiet : {C : Type 0} (rules : Rules C) (h a b : Kept) (c mid last : C) → Way rules h (called_back h c) a mid → Continues h a → over a.budget (run_of a.course) ≡ true
    → b ≡ a → last ≡ mid → PlaysOut rules h c b last
way_quiet rules h a b c mid last w e o same stays =
    let out : PlaysOut rules h c a mid = way_out rules h a c mid w e o in
    subst (λ (x : Kept). PlaysOut rules h c x last) (sym same) (subst (λ x. PlaysOut rules h c a x) (sym stays) out)

-- ---- a part of a run

pub way_to : {C : Type 0} (rules : Rules C) (h a : Kept) (c last : C) → Way rules h (playing h c) a last → PlaysFurther rules h c a last
way_to rules h a c last w = record { items = w.items; plays = w.plays }

pub way_some : {C : Type 0} (rules : Rules C) (h a : Kept) (c last : C) → Way rules h (playing h c) a last → PlaysSome rules h c a
way_some rules h a c last w = record { last = last; plays = way_to rules h a c last w }

-- nothing more was done, and the chooser was not asked
pub way_stays : {C : Type 0} (rules : Rules C) (h a b : Kept) (c mid last : C) → Way rules h (playing h c) a mid → b ≡ a → last ≡ mid → PlaysFurther rules h c b last
way_stays rules h a b c mid last w same stays =
    subst (λ x. PlaysFurther rules h c b x) (sym stays) (way_to rules h b c mid (way_same rules h a b (playing h c) mid w same))

-- the thread that was ready first is handed out
handed_before : {C : Type 0} (a b : Kept) (m : PlainMachine) (c : C) → HandedOut a (Some m) b → LeavesFirst a.queue (Some m) b.queue
    → before_handing (next.Job m) b c ≡ playing a c
handed_before a b m c s first =
    ap (λ (x : Kept). record { items = x.course.items; run = run_of x.course; queue = record { 0 = m.thread } ∷ b.queue; chooser = c }) s.3
    ∙ ap (λ (q : List Tid). record { items = a.course.items; run = run_of a.course; queue = q; chooser = c }) (sym first)

pub way_handed : {C : Type 0} (rules : Rules C) (h a b : Kept) (c last : C) (m : PlainMachine) → Way rules h (playing h c) a last → HandedOut a (Some m) b
    → LeavesFirst a.queue (Some m) b.queue → PlaysUpTo rules h c (next.Job m) b last
way_handed rules h a b c last m w s first = record { items = w.items; plays = handed_before a b m last s first ∙ w.plays }

-- no thread was ready, and a row was taken or the time moved
pub way_moved : {C : Type 0} (rules : Rules C) (h a b d : Kept) (from : Played C) (mid last : C) → Way rules h from a mid → Continues h a → over a.budget (run_of a.course) ≡ false
    → a.course.used < a.budget → HandedOut a None b → LeavesFirst a.queue None b.queue → MovedOn b true d → MovesBy rules b mid true d last → Way rules h from d last
way_moved rules h a b d from mid last w e o left n first m moves =
    way_more rules h a d from mid last m.0 w e o left
    (subst (λ (x : Kept). GoesBy rules x mid d last) n.1 (move_goes rules b d mid last (first ∙ ap (λ (x : Kept). slice_get x.queue 0) (sym n.1)) moves))
    (subst (λ (x : Kept). AddsItem x m.0 d) n.1 m.3)

-- ---- at the beginning

none_those_out : (k : ℕ) (out : List Bool) → ((t : ℕ) → is_out_of out t ≡ false) → those_out k out ≡ []
none_those_out k [] h = refl
none_those_out k (true ∷ out) h = let e : true ≡ false = h 0 in cc
none_those_out k (false ∷ out) h = none_those_out (suc k) out (λ t. h (suc t))

some_is : {X : Type 0} (x y : X) → Some x ≡ Some y → y ≡ x
some_is x y h = cc

pub begins_run : {C : Type 0} (h : Kept) (chooser : C) → BeginsRun h chooser
begins_run h chooser p budget watch b leads =
    let at : stands (text_of p) [] ≡ Some (run_of h.course) =
    subst (λ x. stands (text_of x) [] ≡ Some (run_of h.course)) b.program (subst (λ xs. stands (text_of h.course.program) xs ≡ Some (run_of h.course)) b.items leads) in
    let run : run_of h.course ≡ opening (text_of p) = some_is (opening (text_of p)) (run_of h.course) at in
    let queue : h.queue ++ those_out 0 h.out ≡ record { 0 = 0 } ∷ [] =
    ap (λ q. q ++ those_out 0 h.out) b.queue ∙ ap (λ l. record { 0 = 0 } ∷ l) (none_those_out 0 h.out b.none_out) in
    rw (b.items, run, queue) refl
