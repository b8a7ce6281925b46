-- Exactly the threads that run are in the queue of a run by a chooser, once each; so each of its items is allowed.
use Rattle.std.proofs.Common.{◌≡◌, ℕ, zero, suc, ◌+◌, ◌<◌, Bool, true, false, ◌||◌, if◌then◌else◌, List, [], ◌∷◌, ◌++◌, length, nat_eq, Option, Some, None}
use Rattle.std.proofs.Common.{refl, ap, sym, ◌∙◌, subst, arith, length-append, length-set}
use Rattle.std.specs.Prelude.{slice_get, slice_set, option_map, option_and_then}
use Rattle.std.specs.List.{list_any}
use Rattle.std.specs.Option.{option_map_or}
use Rattle.std.proofs.lemmas.Bool.Decides.{nat_tests}
use Rattle.cml_value.specs.declared.number.Tid.{Tid}
use Rattle.cml_value.specs.Group.{PlainGroup}
use Rattle.cml_scan.specs.World.{PlainThread, running, pending_on, ended, PlainWorld}
use Rattle.cml_scan.specs.Scan.{scan, has_row}
use Rattle.cml_scan.specs.declared.meet.Meet.{Meet}
use Rattle.cml_scan.specs.declared.meet.Meet.TheVariants.{Single, Pair}
use Rattle.cml_scan.proofs.Enabling.{Contains-has_row, scan-members}
use Rattle.cml_schedule.specs.declared.item.Item.{Item}
use Rattle.cml_schedule.specs.declared.item.Item.TheVariants.{Turn, Meet as Commit, Exchange, Clock}
use Rattle.cml_step.specs.Terms.{Program}
use Rattle.cml_book.specs.Swaps.{swaps}
use Rattle.cml_book.specs.Walks.{runs, is_running}
use Rattle.cml_hub.specs.Courses.{PartiesWait, parties_run}
use Rattle.cml_hub.specs.Performed.{PlainDone, goes, gets, spawns, prints, waits, ends, fails}
use Rattle.cml_hub.specs.Playing.{Rules, Played, picked, spent, taking, parties, begun_by, ready_after, adds, moved_by, next_by}
use Rattle.cml_hub.specs.ReadyQueue.{is_at, count_of}
use Rattle.cml_hub.specs.Runs.{Run, stands, any_runs, is_empty, next_alarm, terminal}
use Rattle.cml_hub.proofs.MarkLemmas.{at_same, count_append}
use Rattle.cml_hub.proofs.Meeting.{parties_wait}
use Rattle.cml_hub.proofs.Performing.{ThreadsDone}
use Rattle.cml_hub.proofs.Standing.{get_other, leads_on}
use Rattle.cml_explore.proofs.AllowedLemmas.{plus_none, HaveTerms, ItemThreads, Goes, item_goes, runs_there}
use Rattle.cml_explore.proofs.WayLemmas.{InRange, IsAllowed, picks_row, taking_allowed, alarm_allowed}

-- 1 where the thread runs
abbrev pub one_if : Bool → ℕ
one_if true = 1
one_if false = 0

abbrev pub runs_at : List PlainThread → ℕ → ℕ
runs_at ts t = one_if (option_map_or runs (slice_get ts t) false)

-- exactly the threads that run are in the queue, once each
abbrev pub IsQueue : List PlainThread → List Tid → Type 0
IsQueue ts queue = (t : ℕ) → count_of t queue ≡ runs_at ts t

runs_push : (ts : List PlainThread) (u : ℕ) → runs_at (ts ++ running ∷ []) u ≡ runs_at ts u + is_at u (length ts)
runs_push [] zero = refl
runs_push [] (suc u) = refl
runs_push (x ∷ ts) zero = plus_none (one_if (runs x))
runs_push (x ∷ ts) (suc u) = runs_push ts u

-- a thread that ran runs no more, and one that did not run runs
runs_off : (ts : List PlainThread) (t u : ℕ) (now : PlainThread) → slice_get ts t ≡ Some running → runs now ≡ false → runs_at (slice_set ts t now) u + is_at u t ≡ runs_at ts u
runs_off [] t u now e off = cc
runs_off (x ∷ ts) zero zero now e off = let is : x ≡ running = cc in ap (λ b. one_if b + 1) off ∙ ap (λ y. one_if (runs y)) (sym is)
runs_off (x ∷ ts) zero (suc u) now e off = sym (plus_none (runs_at ts u))
runs_off (x ∷ ts) (suc t) zero now e off = sym (plus_none (one_if (runs x)))
runs_off (x ∷ ts) (suc t) (suc u) now e off = runs_off ts t u now e off

runs_on : (ts : List PlainThread) (t u : ℕ) (g : PlainGroup) → slice_get ts t ≡ Some (pending_on g) → runs_at (slice_set ts t running) u ≡ runs_at ts u + is_at u t
runs_on [] t u g e = cc
runs_on (x ∷ ts) zero zero g e = let is : x ≡ pending_on g = cc in ap (λ y. one_if (runs y) + 1) (sym is)
runs_on (x ∷ ts) zero (suc u) g e = plus_none (runs_at ts u)
runs_on (x ∷ ts) (suc t) zero g e = plus_none (one_if (runs x))
runs_on (x ∷ ts) (suc t) (suc u) g e = runs_on ts t u g e

-- After a turn.
same_number : (m n : ℕ) → n ≡ m → nat_eq n m ≡ true
same_number m n e = grind (arith, nat_tests)

more_number : (m n : ℕ) → n ≡ m + 1 → nat_eq n m ≡ false
more_number m n e = grind (arith, nat_tests)

get_kept : {X : Type 0} (xs ys : List X) (i : ℕ) (x : X) → slice_get xs i ≡ Some x → slice_get (xs ++ ys) i ≡ Some x
get_kept [] ys i x h = cc
get_kept (y ∷ xs) ys zero x h = h
get_kept (y ∷ xs) ys (suc i) x h = get_kept xs ys i x h

get_set : {X : Type 0} (xs : List X) (i : ℕ) (x y : X) → slice_get xs i ≡ Some x → slice_get (slice_set xs i y) i ≡ Some y
get_set [] i x y h = cc
get_set (z ∷ xs) zero x y h = refl
get_set (z ∷ xs) (suc i) x y h = get_set xs i x y h

-- who is ready after the turn, by whether another began and whether the thread runs still
abbrev ready_by : Tid → Tid → Bool → Bool → List Tid
ready_by t child same still = (if same then [] else child ∷ []) ++ (if still then t ∷ [] else [])

ready_is : (old new : PlainWorld) (t : Tid) (same still : Bool) → nat_eq (length new.threads) (length old.threads) ≡ same → is_running new t.0 ≡ still
    → ready_by t (record { 0 = length old.threads }) same still ≡ ready_after old new t
ready_is old new t same still a b =
    let child : Tid = record { 0 = length old.threads } in
    sym (ap (λ c. ready_by t child c (is_running new t.0)) a ∙ ap (λ c. ready_by t child same c) b)

told : (ts : List PlainThread) (t : ℕ) (x : PlainThread) → slice_get ts t ≡ Some x → option_map_or runs (slice_get ts t) false ≡ runs x
told ts t x e = ap (λ o. option_map_or runs o false) e

same_counts : (a b c d e : ℕ) → a + b ≡ c → d ≡ b + (a + 0) → e ≡ c → d ≡ e
same_counts a b c d e h f g = omega (arith, h, f, g)

child_counts : (a b c d e n : ℕ) → a + b ≡ c → d ≡ b + (n + (a + 0)) → e ≡ c + n → d ≡ e
child_counts a b c d e n h f g = omega (arith, h, f, g)

off_counts : (a b c d e : ℕ) → a + b ≡ c → d ≡ b + 0 → e + a ≡ c → d ≡ e
off_counts a b c d e h f g = omega (arith, h, f, g)

module _ (old new : PlainWorld) (t : Tid) (rest : List Tid) (run : slice_get old.threads t.0 ≡ Some running) (h : IsQueue old.threads (t ∷ rest)) where
  on_queue : new.threads ≡ old.threads → IsQueue new.threads (rest ++ ready_after old new t)
  on_queue after =
      subst (λ l. IsQueue new.threads (rest ++ l))
      (ready_is old new t true true (same_number (length old.threads) (length new.threads) (ap length after)) (told new.threads t.0 running (ap (λ ts. slice_get ts t.0) after ∙ run)))
      (λ u.
      same_counts (is_at u t.0) (count_of u rest) (runs_at old.threads u) (count_of u (rest ++ t ∷ [])) (runs_at new.threads u) (h u) (count_append u rest (t ∷ []))
      (ap (λ ts. runs_at ts u) after))

  with_queue : new.threads ≡ old.threads ++ running ∷ [] → IsQueue new.threads (rest ++ ready_after old new t)
  with_queue after =
      let child : Tid = record { 0 = length old.threads } in
      subst (λ l. IsQueue new.threads (rest ++ l))
      (ready_is old new t false true (more_number (length old.threads) (length new.threads) (ap length after ∙ length-append old.threads (running ∷ [])))
      (told new.threads t.0 running (ap (λ ts. slice_get ts t.0) after ∙ get_kept old.threads (running ∷ []) t.0 running run)))
      (λ u.
      child_counts (is_at u t.0) (count_of u rest) (runs_at old.threads u) (count_of u (rest ++ child ∷ t ∷ [])) (runs_at new.threads u) (is_at u (length old.threads)) (h u)
      (count_append u rest (child ∷ t ∷ [])) (ap (λ ts. runs_at ts u) after ∙ runs_push old.threads u))

  off_queue : (now : PlainThread) → runs now ≡ false → new.threads ≡ slice_set old.threads t.0 now → IsQueue new.threads (rest ++ ready_after old new t)
  off_queue now off after =
      subst (λ l. IsQueue new.threads (rest ++ l))
      (ready_is old new t true false (same_number (length old.threads) (length new.threads) (ap length after ∙ length-set old.threads t.0 now))
      (told new.threads t.0 now (ap (λ ts. slice_get ts t.0) after ∙ get_set old.threads t.0 running now run) ∙ off))
      (λ u.
      off_counts (is_at u t.0) (count_of u rest) (runs_at old.threads u) (count_of u (rest ++ [])) (runs_at new.threads u) (h u) (count_append u rest [])
      (ap (λ ts. runs_at ts u + is_at u t.0) after ∙ runs_off old.threads t.0 u now run off))

  turn_queue : (d : PlainDone) → ThreadsDone t.0 d old.threads new.threads → IsQueue new.threads (rest ++ ready_after old new t)
  turn_queue (spawns n f) done_ = with_queue done_.1
  turn_queue waits done_ = off_queue (pending_on done_.0) refl done_.1
  turn_queue ends done_ = off_queue ended refl done_
  turn_queue (fails name) done_ = off_queue ended refl done_
  turn_queue goes done_ = on_queue done_
  turn_queue (gets answer) done_ = on_queue done_
  turn_queue (prints text) done_ = on_queue done_

-- After a row.
one_party : (a b n c d : ℕ) → a ≡ b → c ≡ a + (n + 0) → d ≡ b + n → c ≡ d
one_party a b n c d h f g = omega (arith, h, f, g)

two_parties : (a b n m c d e : ℕ) → a ≡ b → c ≡ a + (n + (m + 0)) → d ≡ b + n → e ≡ d + m → c ≡ e
two_parties a b n m c d e h f g k = omega (arith, h, f, g, k)

row_queue : (w : PlainWorld) (row : Meet) (queue : List Tid) → PartiesWait w row → IsQueue w.threads queue → IsQueue (parties_run row w.threads) (queue ++ parties row)
row_queue w (Single t n) queue p h = λ u.
    one_party (count_of u queue) (runs_at w.threads u) (is_at u t.0) (count_of u (queue ++ t ∷ [])) (runs_at (slice_set w.threads t.0 running) u) (h u)
    (count_append u queue (t ∷ [])) (runs_on w.threads t.0 u p.0 p.1)
row_queue w (Pair a i o j) queue p h = λ u.
    let mid = slice_set w.threads a.0 running in
    two_parties (count_of u queue) (runs_at w.threads u) (is_at u a.0) (is_at u o.0) (count_of u (queue ++ a ∷ o ∷ [])) (runs_at mid u) (runs_at (slice_set mid o.0 running) u) (h u)
    (count_append u queue (a ∷ o ∷ [])) (runs_on w.threads a.0 u p.0.0 p.0.1) (runs_on mid o.0 u p.1.0 (get_other w.threads a.0 o.0 running p.2 ∙ p.1.1))

-- Who runs, by the queue.
is_one : (b : Bool) → 0 < one_if b → b ≡ true
is_one true h = refl
is_one false h = (let no : 0 < 0 = h in absurd (omega (arith, no)))

runs_not : (b : Bool) → 0 ≡ one_if b → b ≡ false
runs_not true h = (let no : 0 ≡ 1 = h in absurd (omega (arith, no)))
runs_not false h = refl

first_counts : (a b c : ℕ) → a ≡ 1 → a + b ≡ c → 0 < c
first_counts a b c one sum = omega (arith, one, sum)

first_runs : (ts : List PlainThread) (t : Tid) (rest : List Tid) → IsQueue ts (t ∷ rest) → option_map_or runs (slice_get ts t.0) false ≡ true
first_runs ts t rest h =
    is_one (option_map_or runs (slice_get ts t.0) false) (first_counts (is_at t.0 t.0) (count_of t.0 rest) (runs_at ts t.0) (at_same t.0) (h t.0))

none_run : (ts : List PlainThread) → ((t : ℕ) → 0 ≡ runs_at ts t) → list_any runs ts ≡ false
none_run [] h = refl
none_run (x ∷ ts) h = both (runs x) (list_any runs ts) (runs_not (runs x) (h 0)) (none_run ts (λ t. h (suc t)))
  where
    both : (a b : Bool) → a ≡ false → b ≡ false → a || b ≡ false
    both a b e f = rw (e, f) refl

-- What holds of a run on its way, and of the next item.
pub record IsOnWay {C : Type 0} (p : Program) (g : Played C) : Type 0 where
  pub leads : stands p g.items ≡ Some g.run
  pub terms : HaveTerms g.run
  pub queue : IsQueue g.run.world.threads g.queue

pub record GoesOn {C : Type 0} (p : Program) (g : Played C) (o : Option (Played C)) : Type 0 where
  pub next : Played C
  pub is : o ≡ Some next
  pub uses : g.run.used < next.run.used
  pub on : IsOnWay p next

pub begun_on : {C : Type 0} (p : Program) (chooser : C) → IsOnWay p (begun_by p chooser)
begun_on p chooser = record { leads = refl; terms = refl; queue = first }
  where
    first : (t : ℕ) → count_of t (record { 0 = 0 } ∷ []) ≡ runs_at (running ∷ []) t
    first zero = refl
    first (suc t) = refl

adds_goes : {C : Type 0} (p : Program) (g : Played C) (item : Item) (queue : PlainWorld → List Tid) (chooser : C) → IsOnWay p g → (to : Goes p g.run item)
    → IsQueue to.next.world.threads (queue to.next.world) → GoesOn p g (adds p g item queue chooser)
adds_goes {C = C} p g item queue chooser h to q =
    let so : Run → Played C = λ r. record { items = g.items ++ item ∷ []; run = r; queue = queue r.world; chooser = chooser } in
    record {
      next = so to.next;
      is = ap (option_map so) to.leads;
      uses = to.uses;
      on = record { leads = leads_on p g.items item g.run (Some to.next) h.leads to.leads; terms = to.terms; queue = q };
    }

taking_threads : (row : Meet) (old new : List PlainThread) (b : Bool) → ItemThreads (if b then Exchange row else Commit row) old new → new ≡ parties_run row old
taking_threads row old new true h = h
taking_threads row old new false h = h

none_picked : {C : Type 0} (rules : Rules C) (c : C) (rows : List Meet) → is_empty rows ≡ true → picked rules c rows ≡ None
none_picked rules c [] e = refl
none_picked rules c (r ∷ rows) e = cc

module _ {C : Type 0} (p : Program) (rules : Rules C) (fair : InRange rules) (g : Played C) (h : IsOnWay p g) where
  row_goes : (row : Meet) → has_row (scan g.run.world) row ≡ true → GoesOn p g (moved_by p rules g (Some row))
  row_goes row has =
      let w = g.run.world in
      let to = item_goes p g.run (taking w row) h.terms (taking_allowed w row has) in
      let wait = parties_wait w row ((scan-members w row).0 (Contains-has_row (scan w) row has)) in
      adds_goes p g (taking w row) (λ v. g.queue ++ parties row) (spent rules g.chooser (Some row)) h to
      (subst (λ ts. IsQueue ts (g.queue ++ parties row)) (sym (taking_threads row w.threads to.next.world.threads (swaps w row) to.threads)) (row_queue w row g.queue wait h.queue))

  tick_goes : (o : Option ℕ) → IsAllowed g.run.world (option_map Clock o) → GoesOn p g (option_and_then (λ tick. adds p g (Clock tick) (λ w. g.queue) g.chooser) o)
  tick_goes None ok = absurd ok
  tick_goes (Some tick) ok =
      let to = item_goes p g.run (Clock tick) h.terms ok in
      adds_goes p g (Clock tick) (λ w. g.queue) g.chooser h to (subst (λ ts. IsQueue ts g.queue) (sym to.threads) h.queue)

  moved_goes : (b : Bool) → is_empty (scan g.run.world) ≡ b → any_runs g.run.world ≡ false → terminal g.run.world ≡ false → GoesOn p g (moved_by p rules g (picked rules g.chooser (scan g.run.world)))
  moved_goes true e none left =
      subst (λ (o : Option Meet). GoesOn p g (moved_by p rules g o)) (sym (none_picked rules g.chooser (scan g.run.world) e))
      (tick_goes (next_alarm g.run.world) (alarm_allowed g.run.world none e left))
  moved_goes false e none left =
      let x = picks_row rules fair g.chooser (scan g.run.world) e in
      subst (λ (o : Option Meet). GoesOn p g (moved_by p rules g o)) (sym x.is) (row_goes x.row x.has)

  -- anything is left to do, so that an item is added
  pub next_goes : (queue : List Tid) → g.queue ≡ queue → terminal g.run.world ≡ false → GoesOn p g (next_by p rules g queue)
  next_goes (t ∷ rest) e left =
      let w = g.run.world in
      let q = subst (IsQueue w.threads) e h.queue in
      let ok = first_runs w.threads t rest q in
      let to = item_goes p g.run (Turn t) h.terms ok in
      adds_goes p g (Turn t) (λ v. rest ++ ready_after w v t) g.chooser h to
      (turn_queue w to.next.world t rest (runs_there (slice_get w.threads t.0) ok) q to.threads.0 to.threads.1)
  next_goes [] e left = moved_goes (is_empty (scan g.run.world)) refl (none_run g.run.world.threads (subst (IsQueue g.run.world.threads) e h.queue)) left
