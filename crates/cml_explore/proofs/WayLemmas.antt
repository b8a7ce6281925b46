-- What is drawn is allowed, wherever anything is left to do.
use Rattle.std.proofs.Common.{◌≡◌, ℕ, zero, suc, ◌+◌, ◌<◌, ◌≤◌, nat_eq, nat_lt, Bool, true, false, not, ◌&&◌, if◌then◌else◌, List, [], ◌∷◌, length}
use Rattle.std.proofs.Common.{Option, Some, None, refl, ap, sym, ◌∙◌, subst, arith, mod-lt}
use Rattle.std.specs.Prelude.{◌==◌, slice_get, option_map, option_and_then}
use Rattle.std.specs.List.{list_any}
use Rattle.std.specs.Option.{option_map_or}
use Rattle.std.proofs.lemmas.Bool.Decides.{nat_tests}
use Rattle.rand_pcg.specs.Pcg.{pcg32}
use Rattle.cml_value.specs.declared.number.Tid.{Tid}
use Rattle.cml_scan.specs.World.{PlainThread, running, pending_on, ended, PlainWorld}
use Rattle.cml_scan.specs.Scan.{scan, has_row, heads_of, partners_of}
use Rattle.cml_scan.specs.declared.meet.Meet.{Meet}
use Rattle.cml_scan.specs.declared.meet.Place.{Place}
use Rattle.cml_scan.proofs.Enabling.{has_row-Contains}
use Rattle.cml_scan.proofs.Firsts.{heads-none, heads-partners, partners-rows}
use Rattle.cml_schedule.specs.declared.item.Item.{Item}
use Rattle.cml_schedule.specs.declared.item.Item.TheVariants.{Meet as Commit, Exchange, Clock}
use Rattle.cml_book.specs.Swaps.{swaps}
use Rattle.cml_book.specs.Walks.{runs, is_running}
use Rattle.cml_hub.specs.Runs.{is_empty, any_runs, is_none, next_alarm, has_number, is_allowed, terminal}
use Rattle.cml_hub.specs.Playing.{Rules, picked, taking}
use Rattle.cml_explore.specs.Lots.{ready_from, row_choices, row_by_lot, item_by_lot, next_by_lot}
use Rattle.cml_explore.specs.Generators.{by_generator}
use Rattle.cml_explore.specs.Priorities.{PlainPriorities, all_begun, priority_of, higher, highest, row_is_first, actor, item_of_actor, acted, next_of_begun, next_by_priority}

-- an item was drawn, and it is allowed
abbrev pub IsAllowed : PlainWorld → Option Item → Type 0
IsAllowed w None = ⊥
IsAllowed w (Some item) = is_allowed w item ≡ true

-- a pick among some things is one of them
abbrev pub InRange : {C : Type 0} → Rules C → Type 0
InRange {C = C} rules = (c : C) (n : ℕ) → 0 < n → rules.picks c n < n

pub get_in : {X : Type 0} (xs : List X) (i : ℕ) → i < length xs → (x : X) × (slice_get xs i ≡ Some x)
get_in [] i h = absurd (omega (arith, h))
get_in (x ∷ xs) zero h = (x, refl)
get_in (x ∷ xs) (suc i) h = get_in xs i (omega (arith, h))

some_in : {X : Type 0} (xs : List X) → (xs ≡ [] → ⊥) → 0 < length xs
some_in [] h = absurd (h refl)
some_in (x ∷ xs) h = omega arith

-- A row is picked, where there is one, and it is one of them.
pub record Picks (rows : List Meet) (o : Option Meet) : Type 0 where
  pub row : Meet
  pub is : o ≡ Some row
  pub has : has_row rows row ≡ true

not_empty : (rows : List Meet) → is_empty rows ≡ false → rows ≡ [] → ⊥
not_empty [] h e = cc
not_empty (r ∷ rows) h e = cc

pub picks_row : {C : Type 0} (rules : Rules C) → InRange rules → (c : C) (rows : List Meet) → is_empty rows ≡ false → Picks rows (picked rules c rows)
picks_row {C = C} rules fair c rows some =
    let n = length (heads_of rows) in
    let x = get_in (heads_of rows) (rules.picks c n) (fair c n (some_in (heads_of rows) (λ none. not_empty rows some ((heads-none rows).0 none)))) in
    let m = length (partners_of rows x.0) in
    let j = rules.picks (rules.next c) m in
    let y = get_in (partners_of rows x.0) j (fair (rules.next c) m (heads-partners rows (rules.picks c n) x.0 x.1)) in
    record {
      row = y.0;
      is = ap (option_and_then (λ (head : Place). slice_get (partners_of rows head) (rules.picks (rules.next c) (length (partners_of rows head))))) x.1 ∙ y.1;
      has = has_row-Contains rows y.0 (partners-rows rows x.0 j y.0 y.1).0;
    }

taking_at : (w : PlainWorld) (row : Meet) (b : Bool) → swaps w row ≡ b → has_row (scan w) row ≡ true → is_allowed w (if b then Exchange row else Commit row) ≡ true
taking_at w row true e h = e
taking_at w row false e h = h

pub taking_allowed : (w : PlainWorld) (row : Meet) → has_row (scan w) row ≡ true → is_allowed w (taking w row) ≡ true
taking_allowed w row h = taking_at w row (swaps w row) refl h

row_allowed : {C : Type 0} (rules : Rules C) → InRange rules → (w : PlainWorld) (c : C) → is_empty (scan w) ≡ false → IsAllowed w (option_map (taking w) (picked rules c (scan w)))
row_allowed rules fair w c some =
    let x = picks_row rules fair c (scan w) some in
    subst (IsAllowed w) (sym (ap (option_map (taking w)) x.is)) (taking_allowed w x.row x.has)

-- The time can move, where no thread runs, no row can be taken, and anything is left to do.
number_same : (a : ℕ) → nat_eq a a ≡ true
number_same a = grind (arith, nat_tests)

all_true : (a b c : Bool) → a ≡ true → b ≡ true → c ≡ true → a && b && c ≡ true
all_true a b c p q r = rw (p, q, r) refl

alarm_at : (w : PlainWorld) (o : Option ℕ) → next_alarm w ≡ o → any_runs w ≡ false → is_empty (scan w) ≡ true → terminal w ≡ false → IsAllowed w (option_map Clock o)
alarm_at w None e none empty left = absurd (differ (sym left ∙ all_true (not (any_runs w)) (is_empty (scan w)) (is_none (next_alarm w)) (ap not none) empty (ap is_none e)))
  where
    differ : false ≡ true → ⊥
    differ e = cc
alarm_at w (Some tick) e none empty left =
    all_true (has_number (next_alarm w) tick) (not (any_runs w)) (is_empty (scan w)) (ap (λ o. has_number o tick) e ∙ number_same tick) (ap not none) empty

pub alarm_allowed : (w : PlainWorld) → any_runs w ≡ false → is_empty (scan w) ≡ true → terminal w ≡ false → IsAllowed w (option_map Clock (next_alarm w))
alarm_allowed w none empty left = alarm_at w (next_alarm w) refl none empty left

-- The threads that run are those that are ready.
record IsThere (n : ℕ) (ts : List PlainThread) (t : Tid) : Type 0 where
  place : ℕ
  number : t.0 ≡ n + place
  at : slice_get ts place ≡ Some running

there_next : (n : ℕ) (x : PlainThread) (ts : List PlainThread) (t : Tid) → IsThere (suc n) ts t → IsThere n (x ∷ ts) t
there_next n x ts t f = record { place = suc f.place; number = omega (arith, f.number); at = f.at }

number_of : (n : ℕ) (u t : Tid) → u.0 ≡ n → Some u ≡ Some t → t.0 ≡ n + 0
number_of n u t h e = (let is : u ≡ t = cc in let same : u.0 ≡ t.0 = ap (λ (v : Tid). v.0) is in omega (arith, h, same))

ready_there : (n : ℕ) (ts : List PlainThread) (k : ℕ) (t : Tid) → slice_get (ready_from n ts) k ≡ Some t → IsThere n ts t
ready_there n [] k t e = absurd (cc)
ready_there n (running ∷ ts) zero t e = record { place = 0; number = number_of n (record { 0 = n }) t refl e; at = refl }
ready_there n (running ∷ ts) (suc k) t e = there_next n running ts t (ready_there (suc n) ts k t e)
ready_there n (pending_on g ∷ ts) k t e = there_next n (pending_on g) ts t (ready_there (suc n) ts k t e)
ready_there n (ended ∷ ts) k t e = there_next n ended ts t (ready_there (suc n) ts k t e)

ready_allowed : (w : PlainWorld) (k : ℕ) (t : Tid) → slice_get (ready_from 0 w.threads) k ≡ Some t → is_running w t.0 ≡ true
ready_allowed w k t e =
    let f = ready_there 0 w.threads k t e in
    let same : t.0 ≡ f.place = omega (arith, f.number) in
    ap (λ i. option_map_or runs (slice_get w.threads i) false) same ∙ ap (λ o. option_map_or runs o false) f.at

none_ready : (n : ℕ) (ts : List PlainThread) → length (ready_from n ts) ≡ 0 → list_any runs ts ≡ false
none_ready n [] e = refl
none_ready n (running ∷ ts) e = (let no : suc (length (ready_from (suc n) ts)) ≡ 0 = e in absurd (omega (arith, no)))
none_ready n (pending_on g ∷ ts) e = none_ready (suc n) ts e
none_ready n (ended ∷ ts) e = none_ready (suc n) ts e

-- By lot.
choices_none : (b : Bool) (n : ℕ) → n + (if b then 0 else 1) ≡ 0 → (n ≡ 0) × (b ≡ true)
choices_none true n e = (let same : n + 0 ≡ 0 = e in (omega (arith, same), refl))
choices_none false n e = (let no : n + 1 ≡ 0 = e in absurd (omega (arith, no)))

row_left : (b : Bool) (k n : ℕ) → k < n + (if b then 0 else 1) → n ≤ k → b ≡ false
row_left true k n less past = (let no : k < n + 0 = less in absurd (omega (arith, no, past)))
row_left false k n less past = refl

past_end : {X : Type 0} (xs : List X) (i : ℕ) → slice_get xs i ≡ None → length xs ≤ i
past_end [] i e = omega arith
past_end (x ∷ xs) zero e = absurd (cc)
past_end (x ∷ xs) (suc i) e = omega (arith, past_end xs i e)

number_is : (n m : ℕ) → nat_eq n m ≡ true → n ≡ m
number_is n m e = grind (arith, nat_tests)

number_some : (n : ℕ) → nat_eq n 0 ≡ false → 0 < n
number_some n e = grind (arith, nat_tests)

module _ {C : Type 0} (rules : Rules C) (fair : InRange rules) (w : PlainWorld) (c : C) (left : terminal w ≡ false) where
  lot_item : (k : ℕ) (o : Option Tid) → slice_get (ready_from 0 w.threads) k ≡ o → k < length (ready_from 0 w.threads) + row_choices (scan w) → IsAllowed w (item_by_lot rules w (rules.next c) o).0
  lot_item k (Some t) e within = ready_allowed w k t e
  lot_item k None e within =
      row_allowed rules fair w (rules.next c) (row_left (is_empty (scan w)) k (length (ready_from 0 w.threads)) within (past_end (ready_from 0 w.threads) k e))

  lot_at : (b : Bool) → ((length (ready_from 0 w.threads) + row_choices (scan w)) == 0) ≡ b
      → IsAllowed w
      (if b then (option_map Clock (next_alarm w), c)
      else item_by_lot rules w (rules.next c) (slice_get (ready_from 0 w.threads) (rules.picks c (length (ready_from 0 w.threads) + row_choices (scan w))))).0
  lot_at true e =
      let x = choices_none (is_empty (scan w)) (length (ready_from 0 w.threads)) (number_is (length (ready_from 0 w.threads) + row_choices (scan w)) 0 e) in
      alarm_allowed w (none_ready 0 w.threads x.0) x.1 left
  lot_at false e =
      let n = length (ready_from 0 w.threads) + row_choices (scan w) in
      lot_item (rules.picks c n) (slice_get (ready_from 0 w.threads) (rules.picks c n)) refl (fair c n (number_some n e))

pub lot_allowed : {C : Type 0} (rules : Rules C) → InRange rules → (w : PlainWorld) (c : C) → terminal w ≡ false → IsAllowed w (next_by_lot rules w c).0
lot_allowed rules fair w c left = lot_at rules fair w c left ((length (ready_from 0 w.threads) + row_choices (scan w)) == 0) refl

-- By priority.
pub generator_fair : InRange by_generator
generator_fair c n some = mod-lt (pcg32 c).0 some

abbrev IfAny : (Tid → Type 0) → Option Tid → Type 0
IfAny P None = Unit {0}
IfAny P (Some t) = P t

higher_in : (g : PlainPriorities) (P : Tid → Type 0) (t : Tid) (o : Option Tid) → P t → IfAny P o → P (higher g t o)
higher_in g P t None h k = h
higher_in g P t (Some u) h k = either (nat_lt (priority_of g (t.0 + 1)) (priority_of g (u.0 + 1)))
  where
    either : (b : Bool) → P (if b then u else t)
    either true = k
    either false = h

highest_in : (g : PlainPriorities) (P : Tid → Type 0) (ts : List Tid) → ((k : ℕ) (t : Tid) → slice_get ts k ≡ Some t → P t) → IfAny P (highest g ts)
highest_in g P [] h = tt
highest_in g P (t ∷ ts) h = higher_in g P t (highest g ts) (h 0 t refl) (highest_in g P ts (λ k. h (suc k)))

none_highest : (g : PlainPriorities) (ts : List Tid) → highest g ts ≡ None → length ts ≡ 0
none_highest g [] e = refl
none_highest g (t ∷ ts) e = cc

some_rows : (b c : Bool) → not b && c ≡ true → b ≡ false
some_rows true c e = cc
some_rows false c e = refl

module _ (w : PlainWorld) (g : PlainPriorities) (left : terminal w ≡ false) where
  rows_act : (b : Bool) → is_empty (scan w) ≡ b → (b ≡ true → any_runs w ≡ false)
      → IsAllowed w (if b then (option_map Clock (next_alarm w), g.state) else row_by_lot by_generator w g.state (picked by_generator g.state (scan w))).0
  rows_act true e none = alarm_allowed w (none refl) e left
  rows_act false e none = row_allowed by_generator generator_fair w g.state e

  thread_acts : (t : Tid) → is_running w t.0 ≡ true → (b : Bool) → row_is_first w g t ≡ b → IsAllowed w (item_of_actor w g.state (if b then None else Some t)).0
  thread_acts t turns true e = rows_act (is_empty (scan w)) refl (λ empty. absurd (differ (sym (some_rows (is_empty (scan w)) (nat_lt (priority_of g (t.0 + 1)) (priority_of g 0)) e) ∙ empty)))
    where
      differ : false ≡ true → ⊥
      differ e = cc
  thread_acts t turns false e = turns

  actor_acts : (o : Option Tid) → IfAny (λ t. is_running w t.0 ≡ true) o → (o ≡ None → any_runs w ≡ false) → IsAllowed w (item_of_actor w g.state (actor w g o)).0
  actor_acts None h none = rows_act (is_empty (scan w)) refl (λ empty. none refl)
  actor_acts (Some t) h none = thread_acts t h (row_is_first w g t) refl

acted_allowed : (items : ℕ) (w : PlainWorld) (g : PlainPriorities) (who : Option Tid) → IsAllowed w (item_of_actor w g.state who).0 → IsAllowed w (acted items w g who).0
unfolding acted
acted_allowed items w g who h = h

begun_allowed : (items : ℕ) (w : PlainWorld) (g : PlainPriorities) → terminal w ≡ false → IsAllowed w (next_of_begun items w g).0
unfolding next_of_begun
begun_allowed items w g left =
    let ready = ready_from 0 w.threads in
    acted_allowed items w g (actor w g (highest g ready))
    (actor_acts w g left (highest g ready) (highest_in g (λ t. is_running w t.0 ≡ true) ready (ready_allowed w)) (λ e. none_ready 0 w.threads (none_highest g ready e)))

pub priority_allowed : (items : ℕ) (w : PlainWorld) (g : PlainPriorities) → terminal w ≡ false → IsAllowed w (next_by_priority items w g).0
priority_allowed items w g left = begun_allowed items w (all_begun (length w.threads + 1) g) left
