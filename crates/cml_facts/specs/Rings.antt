-- Threads that wait for one another in a ring.
use Rattle.std.specs.Prelude.{◌≡◌, ◌≢◌, ◌⊎◌, ℕ, zero, suc, true, ◌==◌, if◌then◌else◌, List, [], ◌∷◌, ◌++◌, map, length, Option, Some, None, option_map, option_and_then, slice_get, slice_index_or, All, AllPairs}
use Rattle.std.specs.Option.{option_or}
use Rattle.cml_value.specs.Value.{PlainBase, mtake, mget, mswap, join}
use Rattle.cml_value.specs.Group.{bases}
use Rattle.cml_scan.specs.World.{PlainThread, PlainWorld}
use Rattle.cml_scan.specs.Light.{is_full, has_ended}
use Rattle.cml_scan.specs.declared.meet.Meet.{Meet}
use Rattle.cml_scan.specs.declared.meet.Meet.TheVariants.{Single, Pair}
use Rattle.cml_book.specs.Threads.{flat_of}
use Rattle.cml_hub.specs.Runs.{terminal}
use Rattle.cml_hub.specs.Courses.{IsPending}

-- For which thread a base event waits that can't be taken now: for the one that took last from its M-variable, which is empty, or for the one
-- whose end it waits for, which has not ended.
abbrev pub blocked_by : PlainWorld → (ℕ → Option ℕ) → PlainBase → Option ℕ
blocked_by w taker (mtake m) = if is_full (slice_get w.mvars m) then None else taker m
blocked_by w taker (mget m) = if is_full (slice_get w.mvars m) then None else taker m
blocked_by w taker (mswap m v) = if is_full (slice_get w.mvars m) then None else taker m
blocked_by w taker (join t) = if has_ended (slice_get w.threads t) then None else Some t
blocked_by w taker b = None

-- that of the only base event
abbrev pub blocked_only : PlainWorld → (ℕ → Option ℕ) → List PlainBase → Option ℕ
blocked_only w taker (b ∷ []) = blocked_by w taker b
blocked_only w taker bs = None

-- for which thread a thread waits that waits for one event alone
abbrev pub next_thread : PlainWorld → (ℕ → Option ℕ) → PlainThread → Option ℕ
next_thread w taker thread = option_and_then (λ g. blocked_only w taker (bases g)) (flat_of thread)

-- that of each thread
abbrev pub next_threads : PlainWorld → (ℕ → Option ℕ) → List PlainThread → List (Option ℕ)
next_threads w taker threads = map (next_thread w taker) threads

abbrev pub next_of : List (Option ℕ) → ℕ → Option ℕ
next_of nexts t = slice_index_or nexts t None

-- The threads to which one comes from this one on, each time to the one for which that one waits, up to the thread `end`; there are none
-- where one does not come to it in so many steps.
abbrev pub way_to : List (Option ℕ) → ℕ → ℕ → Option ℕ → Option (List ℕ)
way_to nexts end zero t = None
way_to nexts end (suc n) None = None
way_to nexts end (suc n) (Some t) = if t == end then Some (t ∷ []) else option_map (λ way. t ∷ way) (way_to nexts end n (next_of nexts t))

-- The ring on which a thread lies: from it on, and back to it. No ring has more threads than there are.
abbrev pub ring_from : List (Option ℕ) → ℕ → Option (List ℕ)
ring_from nexts t = option_map (λ way. t ∷ way) (way_to nexts t (length nexts) (next_of nexts t))

-- the first ring on which one of so many threads lies, of which the first has this number
abbrev pub first_ring : List (Option ℕ) → ℕ → ℕ → Option (List ℕ)
first_ring nexts t zero = None
first_ring nexts t (suc n) = option_or (ring_from nexts t) (first_ring nexts (suc t) n)

-- of all rings the one with the least thread, from that thread on
abbrev pub ring_among : List (Option ℕ) → Option (List ℕ)
ring_among nexts = first_ring nexts 0 (length nexts)

-- the ring that is told of a world: the first, where nothing is left to do
abbrev pub told_ring : PlainWorld → (ℕ → Option ℕ) → Option (List ℕ)
told_ring w taker = if terminal w then ring_among (next_threads w taker w.threads) else None

-- each of these threads waits for the one behind it
abbrev pub EachWaits : List (Option ℕ) → List ℕ → Type 0
EachWaits nexts [] = Unit {0}
EachWaits nexts (t ∷ []) = Unit {0}
EachWaits nexts (t ∷ u ∷ ts) = (next_of nexts t ≡ Some u) × EachWaits nexts (u ∷ ts)

-- a ring: it ends with the thread with which it begins, the threads on the way are told apart, and each waits for the one behind it
pub record IsRing (nexts : List (Option ℕ)) (ring : List ℕ) : Type 0 where
  pub first : ℕ
  pub others : List ℕ
  pub goes_round : ring ≡ first ∷ (others ++ first ∷ [])
  pub once : AllPairs (λ t u. t ≢ u) (others ++ first ∷ [])
  pub each_waits : EachWaits nexts ring

-- A ring of threads that never go on: nothing is left to do, each of them waits, and it is a ring.
pub record IsLastRing (w : PlainWorld) (taker : ℕ → Option ℕ) (ring : List ℕ) : Type 0 where
  pub end : terminal w ≡ true
  pub wait : All (IsPending w) ring
  pub is_ring : IsRing (next_threads w taker w.threads) ring

-- the thread is a party to the row
abbrev pub IsParty : ℕ → Meet → Type 0
IsParty t (Single tid leaf) = tid.0 ≡ t
IsParty t (Pair head head_leaf other other_leaf) = (head.0 ≡ t) ⊎ (other.0 ≡ t)
