-- How many leaves of pending threads wait for a tick.
use Rattle.std.proofs.Common.{◌≡◌, ℕ, ◌+◌, ◌*◌, ◌<◌, ◌≤◌, Bool, true, false, cond, List, [], ◌∷◌, ◌++◌, length, map}
use Rattle.std.proofs.Common.{refl, ap, sym, ◌∙◌, arith, zero, suc, Option, Some, None, take, zero-add, add-one}
use Rattle.std.proofs.Common.{slice_index_or}
use Rattle.std.specs.Option.{option_map}
use Rattle.std.specs.Prelude.{slice_set, slice_get, All, Contains, IfSome, IfNone}
use Rattle.std.proofs.lemmas.Bool.Decides.{nat_tests}
use Rattle.std.proofs.lemmas.List.{length-map}
use Rattle.std.proofs.lemmas.List.Elements.{All-head, All-tail, All-cons}
use Rattle.std.proofs.lemmas.List.Sums.{sum_by-append, sum_by-cons, count_by-le-length}
use Rattle.std.proofs.Math.Seq.{take-length}
use Rattle.cml_value.specs.Value.{PlainBase, at_tick}
use Rattle.cml_value.specs.Group.{PlainGroup, PlainLeaf, bases, leaves, leaf_count}
use Rattle.cml_group.specs.LaidOut.{max_leaves}
use Rattle.cml_group.specs.Leaves.{leaf_base}
use Rattle.cml_objects.specs.Clocks.{PlainClock, leaves_at, IsWaited}
use Rattle.cml_scan.specs.World.{PlainThread, running, pending_on, ended, PlainEntry, pending_from}
use Rattle.cml_book.specs.Clock.{bases_awaited}
use Rattle.cml_book.specs.Keeping.{awaits_tick, times_awaited, Counts}
use Rattle.cml_book.specs.Threads.{flat_of}
use Rattle.cml_book.proofs.Pendings.{pending-push, pending-end}

pub awaited-append : (t : ℕ) (xs ys : List PlainBase) → times_awaited t (xs ++ ys) ≡ times_awaited t xs + times_awaited t ys
awaited-append t xs ys = sum_by-append (λ b. cond (awaits_tick t b) 1 0) xs ys

pub awaited-cons : (t : ℕ) (b : PlainBase) (bs : List PlainBase) → times_awaited t (b ∷ bs) ≡ cond (awaits_tick t b) 1 0 + times_awaited t bs
awaited-cons t b bs = sum_by-cons (λ x. cond (awaits_tick t x) 1 0) b bs

pub awaited-yes : (t : ℕ) (b : PlainBase) (bs : List PlainBase) → awaits_tick t b ≡ true → times_awaited t (b ∷ bs) ≡ 1 + times_awaited t bs
awaited-yes t b bs e = awaited-cons t b bs ∙ ap (λ s. cond s 1 0 + times_awaited t bs) e

pub awaited-no : (t : ℕ) (b : PlainBase) (bs : List PlainBase) → awaits_tick t b ≡ false → times_awaited t (b ∷ bs) ≡ times_awaited t bs
awaited-no t b bs e = awaited-cons t b bs ∙ ap (λ s. cond s 1 0 + times_awaited t bs) e ∙ zero-add (times_awaited t bs)

-- one leaf more of a list
leaf_take : (ls : List PlainLeaf) (n : ℕ) (b : PlainBase) → option_map (λ l. l.base) (slice_get ls n) ≡ Some b
    → take (suc n) (map (λ l. l.base) ls) ≡ take n (map (λ l. l.base) ls) ++ b ∷ []
leaf_take [] n b h = cc
leaf_take (l ∷ ls) zero b h = let same : l.base ≡ b = cc in rw same refl
leaf_take (l ∷ ls) (suc n) b h = ap (λ xs. l.base ∷ xs) (leaf_take ls n b h)

pub awaited-take : (t : ℕ) (g : PlainGroup) (n : ℕ) (b : PlainBase) → leaf_base g n ≡ Some b
    → times_awaited t (take (n + 1) (bases g)) ≡ times_awaited t (take n (bases g)) + times_awaited t (b ∷ [])
awaited-take t g n b h = rw add-one (ap (times_awaited t) (leaf_take (leaves g) n b h) ∙ awaited-append t (take n (bases g)) (b ∷ []))

-- fewer leaves of a list
pub awaited-le : (t : ℕ) (bs : List PlainBase) (m k : ℕ) → m ≤ k → times_awaited t (take m bs) ≤ times_awaited t (take k bs)
awaited-le t bs zero k h = omega arith
awaited-le t [] (suc m) (suc k) h = omega arith
awaited-le t [] (suc m) zero h = omega arith
awaited-le t (b ∷ bs) (suc m) zero h = absurd (omega arith)
awaited-le t (b ∷ bs) (suc m) (suc k) h =
    let a = awaited-append t (b ∷ []) (take m bs) in
    let c = awaited-append t (b ∷ []) (take k bs) in
    let ih = awaited-le t bs m k (omega arith) in
    omega arith

awaits_is : (t : ℕ) (b : PlainBase) → awaits_tick t b ≡ true → b ≡ at_tick t
awaits_is t (at_tick u) e = let same : u ≡ t = grind (arith, nat_tests) in ap at_tick same
awaits_is t _ e = cc

awaits_self : (t : ℕ) → awaits_tick t (at_tick t) ≡ true
awaits_self t = grind (arith, nat_tests)

-- a tick is waited for where a leaf waits for it
pub awaited_there : (t : ℕ) (bs : List PlainBase) → Contains bs (at_tick t) → 1 ≤ times_awaited t bs
awaited_there t [] (k, h, e) = absurd (omega arith)
awaited_there t (b ∷ bs) (zero, h, e) =
    let all = awaited-yes t b bs (ap (awaits_tick t) e ∙ awaits_self t) in
    omega arith
awaited_there t (b ∷ bs) (suc k, h, e) =
    let all = awaited-append t (b ∷ []) bs in
    let ih = awaited_there t bs (k, (omega arith), e) in
    omega arith

later : (b : PlainBase) (bs : List PlainBase) (x : PlainBase) → Contains bs x → Contains (b ∷ bs) x
later b bs x (k, h, e) = (suc k, (omega arith), e)

pub there_awaited : (t : ℕ) (bs : List PlainBase) → 1 ≤ times_awaited t bs → Contains bs (at_tick t)
there_awaited t [] h = absurd (omega arith)
there_awaited t (b ∷ bs) h = at (awaits_tick t b) refl (there_awaited t bs)
  where
    at : (s : Bool) → awaits_tick t b ≡ s → (1 ≤ times_awaited t bs → Contains bs (at_tick t)) → Contains (b ∷ bs) (at_tick t)
    at true e ih = (zero, (omega arith), awaits_is t b e)
    at false e ih =
        let all = awaited-no t b bs e in
        later b bs (at_tick t) (ih (omega arith))

-- a group waits no more often for a tick than it has leaves
pub awaited_leaves : (t : ℕ) (g : PlainGroup) → times_awaited t (bases g) ≤ leaf_count g
awaited_leaves t g =
    let a = count_by-le-length (awaits_tick t) (bases g) in
    let b = length-map (leaves g) (λ (l : PlainLeaf). l.base) in
    omega arith

pending_few : (n : ℕ) (ts : List PlainThread) → length (pending_from n ts) ≤ length ts
pending_few n [] = omega arith
pending_few n (running ∷ ts) = let ih = pending_few (n + 1) ts in omega arith
pending_few n (pending_on g ∷ ts) = let ih = pending_few (n + 1) ts in omega arith
pending_few n (ended ∷ ts) = let ih = pending_few (n + 1) ts in omega arith

entries_few : (t : ℕ) (es : List PlainEntry) → All (λ e. leaf_count e.group ≤ max_leaves) es → times_awaited t (bases_awaited es) ≤ 256 * length es
entries_few t [] all = omega arith
entries_few t (e ∷ es) all =
    let head = All-head (λ (x : PlainEntry). leaf_count x.group ≤ max_leaves) e es all in
    let ih = entries_few t es (All-tail (λ (x : PlainEntry). leaf_count x.group ≤ max_leaves) e es all) in
    let a = awaited-append t (bases e.group) (bases_awaited es) in
    let b = awaited_leaves t e.group in
    omega arith

-- no tick is waited for by more leaves than can be counted
pub counts_few : (t : ℕ) (ts : List PlainThread) (waited : List (ℕ × ℕ)) → Counts ts waited → length ts ≤ 4096 → leaves_at waited t ≤ 1048576
counts_few t ts waited c few =
    let a = entries_few t (pending_from 0 ts) c.narrow in
    let b = pending_few 0 ts in
    let is = c.counted t in
    omega arith

pub awaited-wait : (t n i : ℕ) (ts : List PlainThread) (g : PlainGroup) → slice_get ts i ≡ Some running
    → times_awaited t (bases_awaited (pending_from n (slice_set ts i (pending_on g)))) ≡ times_awaited t (bases_awaited (pending_from n ts)) + times_awaited t (bases g)
awaited-wait t n i [] g h = cc
awaited-wait t n zero (running ∷ ts) g h = let a = awaited-append t (bases g) (bases_awaited (pending_from (n + 1) ts)) in omega arith
awaited-wait t n zero (pending_on x ∷ ts) g h = cc
awaited-wait t n zero (ended ∷ ts) g h = cc
awaited-wait t n (suc i) (running ∷ ts) g h = awaited-wait t (n + 1) i ts g h
awaited-wait t n (suc i) (pending_on x ∷ ts) g h =
    let ih = awaited-wait t (n + 1) i ts g h in
    let a = awaited-append t (bases x) (bases_awaited (pending_from (n + 1) (slice_set ts i (pending_on g)))) in
    let b = awaited-append t (bases x) (bases_awaited (pending_from (n + 1) ts)) in
    omega arith
awaited-wait t n (suc i) (ended ∷ ts) g h = awaited-wait t (n + 1) i ts g h

pub awaited-resume : (t n i : ℕ) (ts : List PlainThread) (g : PlainGroup) → slice_get ts i ≡ Some (pending_on g)
    → times_awaited t (bases_awaited (pending_from n (slice_set ts i running))) + times_awaited t (bases g) ≡ times_awaited t (bases_awaited (pending_from n ts))
awaited-resume t n i [] g h = cc
awaited-resume t n zero (running ∷ ts) g h = cc
awaited-resume t n zero (pending_on x ∷ ts) g h =
    let same : x ≡ g = cc in
    let a = awaited-append t (bases x) (bases_awaited (pending_from (n + 1) ts)) in
    rw (← same) (omega arith)
awaited-resume t n zero (ended ∷ ts) g h = cc
awaited-resume t n (suc i) (running ∷ ts) g h = awaited-resume t (n + 1) i ts g h
awaited-resume t n (suc i) (pending_on x ∷ ts) g h =
    let ih = awaited-resume t (n + 1) i ts g h in
    let a = awaited-append t (bases x) (bases_awaited (pending_from (n + 1) (slice_set ts i running))) in
    let b = awaited-append t (bases x) (bases_awaited (pending_from (n + 1) ts)) in
    omega arith
awaited-resume t n (suc i) (ended ∷ ts) g h = awaited-resume t (n + 1) i ts g h

narrow-wait : (n i : ℕ) (ts : List PlainThread) (g : PlainGroup) → leaf_count g ≤ max_leaves → All (λ e. leaf_count e.group ≤ max_leaves) (pending_from n ts)
    → All (λ e. leaf_count e.group ≤ max_leaves) (pending_from n (slice_set ts i (pending_on g)))
narrow-wait n i [] g few all = all
narrow-wait n zero (running ∷ ts) g few all = All-cons (λ (x : PlainEntry). leaf_count x.group ≤ max_leaves) (record { thread = n; group = g }) (pending_from (n + 1) ts) few all
narrow-wait n zero (pending_on x ∷ ts) g few all =
    All-cons (λ (y : PlainEntry). leaf_count y.group ≤ max_leaves) (record { thread = n; group = g }) (pending_from (n + 1) ts) few
    (All-tail (λ (y : PlainEntry). leaf_count y.group ≤ max_leaves) (record { thread = n; group = x }) (pending_from (n + 1) ts) all)
narrow-wait n zero (ended ∷ ts) g few all = All-cons (λ (x : PlainEntry). leaf_count x.group ≤ max_leaves) (record { thread = n; group = g }) (pending_from (n + 1) ts) few all
narrow-wait n (suc i) (running ∷ ts) g few all = narrow-wait (n + 1) i ts g few all
narrow-wait n (suc i) (pending_on x ∷ ts) g few all =
    All-cons (λ (y : PlainEntry). leaf_count y.group ≤ max_leaves) (record { thread = n; group = x }) (pending_from (n + 1) (slice_set ts i (pending_on g)))
    (All-head (λ (y : PlainEntry). leaf_count y.group ≤ max_leaves) (record { thread = n; group = x }) (pending_from (n + 1) ts) all)
    (narrow-wait (n + 1) i ts g few (All-tail (λ (y : PlainEntry). leaf_count y.group ≤ max_leaves) (record { thread = n; group = x }) (pending_from (n + 1) ts) all))
narrow-wait n (suc i) (ended ∷ ts) g few all = narrow-wait (n + 1) i ts g few all

narrow-resume : (n i : ℕ) (ts : List PlainThread) → All (λ e. leaf_count e.group ≤ max_leaves) (pending_from n ts)
    → All (λ e. leaf_count e.group ≤ max_leaves) (pending_from n (slice_set ts i running))
narrow-resume n i [] all = all
narrow-resume n zero (running ∷ ts) all = all
narrow-resume n zero (pending_on x ∷ ts) all = All-tail (λ (y : PlainEntry). leaf_count y.group ≤ max_leaves) (record { thread = n; group = x }) (pending_from (n + 1) ts) all
narrow-resume n zero (ended ∷ ts) all = all
narrow-resume n (suc i) (running ∷ ts) all = narrow-resume (n + 1) i ts all
narrow-resume n (suc i) (pending_on x ∷ ts) all =
    All-cons (λ (y : PlainEntry). leaf_count y.group ≤ max_leaves) (record { thread = n; group = x }) (pending_from (n + 1) (slice_set ts i running))
    (All-head (λ (y : PlainEntry). leaf_count y.group ≤ max_leaves) (record { thread = n; group = x }) (pending_from (n + 1) ts) all)
    (narrow-resume (n + 1) i ts (All-tail (λ (y : PlainEntry). leaf_count y.group ≤ max_leaves) (record { thread = n; group = x }) (pending_from (n + 1) ts) all))
narrow-resume n (suc i) (ended ∷ ts) all = narrow-resume (n + 1) i ts all

pub counts-push : (ts : List PlainThread) (waited : List (ℕ × ℕ)) → Counts ts waited → Counts (ts ++ running ∷ []) waited
counts-push ts waited c = record { counted = λ t. rw (pending-push 0 ts) (c.counted t); narrow = rw (pending-push 0 ts) c.narrow }

pub counts-end : (ts : List PlainThread) (i : ℕ) (waited : List (ℕ × ℕ)) → slice_get ts i ≡ Some running → Counts ts waited → Counts (slice_set ts i ended) waited
counts-end ts i waited runs c = record { counted = λ t. rw (pending-end 0 i ts runs) (c.counted t); narrow = rw (pending-end 0 i ts runs) c.narrow }

pub counts-wait : (ts : List PlainThread) (i : ℕ) (g : PlainGroup) (waited waited' : List (ℕ × ℕ)) → slice_get ts i ≡ Some running → leaf_count g ≤ max_leaves
    → ((t : ℕ) → leaves_at waited' t ≡ leaves_at waited t + times_awaited t (bases g)) → Counts ts waited → Counts (slice_set ts i (pending_on g)) waited'
counts-wait ts i g waited waited' runs few more c = record {
  counted = λ t. (let a = awaited-wait t 0 i ts g runs in let b = more t in let d = c.counted t in omega arith);
  narrow = narrow-wait 0 i ts g few c.narrow;
}

pub counts-resume : (ts : List PlainThread) (i : ℕ) (g : PlainGroup) (waited waited' : List (ℕ × ℕ)) → slice_get ts i ≡ Some (pending_on g)
    → ((t : ℕ) → leaves_at waited' t + times_awaited t (bases g) ≡ leaves_at waited t) → Counts ts waited → Counts (slice_set ts i running) waited'
counts-resume ts i g waited waited' waits less c = record {
  counted = λ t. (let a = awaited-resume t 0 i ts g waits in let b = less t in let d = c.counted t in omega arith);
  narrow = narrow-resume 0 i ts c.narrow;
}

-- a group that is waited on is among those that are counted
pub counts_there : (t : ℕ) (ts : List PlainThread) (i : ℕ) (g : PlainGroup) (waited : List (ℕ × ℕ)) → slice_get ts i
    ≡ Some (pending_on g) → Counts ts waited → times_awaited t (bases g) ≤ leaves_at waited t
counts_there t ts i g waited waits c = let a = awaited-resume t 0 i ts g waits in let d = c.counted t in omega arith

take_all : (g : PlainGroup) (n : ℕ) → n ≡ leaf_count g → take n (bases g) ≡ bases g
take_all g n e = let size = length-map (leaves g) (λ (l : PlainLeaf). l.base) in ap (λ k. take k (bases g)) (e ∙ sym size) ∙ take-length (bases g)

pub all_there : (t : ℕ) (g : PlainGroup) (n : ℕ) (waited : List (ℕ × ℕ)) → n ≡ leaf_count g → times_awaited t (bases g) ≤ leaves_at waited t
    → times_awaited t (take n (bases g)) ≤ leaves_at waited t
all_there t g n waited e there = rw (take_all g n e) there

pub all_left : (g : PlainGroup) (n : ℕ) (waited waited' : List (ℕ × ℕ)) → n ≡ leaf_count g → ((t : ℕ) → leaves_at waited' t + times_awaited t (take n (bases g)) ≡ leaves_at waited t)
    → (t : ℕ) → leaves_at waited' t + times_awaited t (bases g) ≡ leaves_at waited t
all_left g n waited waited' e h t = ap (λ bs. leaves_at waited' t + times_awaited t bs) (sym (take_all g n e)) ∙ h t

-- the counts of other ticks that are the same
pub counts_same : (ts : List PlainThread) (waited waited' : List (ℕ × ℕ)) → ((t : ℕ) → leaves_at waited' t ≡ leaves_at waited t) → Counts ts waited → Counts ts waited'
counts_same ts waited waited' same c = record { counted = λ t. same t ∙ c.counted t; narrow = c.narrow }

-- an alarm of the clock is one of the world
module _ (ts : List PlainThread) (clock : PlainClock) (c : Counts ts clock.waited) where
  waited_there : (t : ℕ) → IsWaited clock t → Contains (bases_awaited (pending_from 0 ts)) (at_tick t)
  waited_there t h = there_awaited t (bases_awaited (pending_from 0 ts)) (let is = c.counted t in omega arith)

  pub there_waited : (t : ℕ) → Contains (bases_awaited (pending_from 0 ts)) (at_tick t) → IsWaited clock t
  there_waited t h = let one = awaited_there t (bases_awaited (pending_from 0 ts)) h in let is = c.counted t in omega arith

  pub alarm_there : (o : Option ℕ) → IfSome o (IsWaited clock) → IfSome o (λ a. clock.tick < a) → IfSome o (λ t. (clock.tick < t) × Contains (bases_awaited (pending_from 0 ts)) (at_tick t))
  alarm_there None h k = tt
  alarm_there (Some t) h k = (k, waited_there t h)

  pub alarm_least : (o : Option ℕ) → IfSome o (λ a. (t : ℕ) → IsWaited clock t → clock.tick < t → a ≤ t)
      → IfSome o (λ a. (t : ℕ) → (clock.tick < t) × Contains (bases_awaited (pending_from 0 ts)) (at_tick t) → a ≤ t)
  alarm_least None h = tt
  alarm_least (Some a) h = λ t p. h t (there_waited t p.1) p.0

  pub alarm_none : (o : Option ℕ) → IfNone o ((t : ℕ) → IsWaited clock t → t ≤ clock.tick)
      → IfNone o ((t : ℕ) → (clock.tick < t) × Contains (bases_awaited (pending_from 0 ts)) (at_tick t) → ⊥)
  alarm_none None h = λ t p. (let below = h t (there_waited t p.1) in let above = p.0 in absurd (omega arith))
  alarm_none (Some a) h = tt

flat_pending : (x : PlainThread) (g : PlainGroup) → flat_of x ≡ Some g → x ≡ pending_on g
flat_pending running g h = cc
flat_pending (pending_on f) g h = let same : f ≡ g = cc in ap pending_on same
flat_pending ended g h = cc

-- the thread at a place waits on a group
pub waits_at : (ts : List PlainThread) (i : ℕ) (x d : PlainThread) (g : PlainGroup) → i < length ts → x ≡ slice_index_or ts i d → flat_of x ≡ Some g → slice_get ts i ≡ Some (pending_on g)
waits_at [] i x d g h e f = absurd (omega arith)
waits_at (t ∷ ts) zero x d g h e f = ap Some (sym e ∙ flat_pending x g f)
waits_at (t ∷ ts) (suc i) x d g h e f = waits_at ts i x d g (omega arith) e f
