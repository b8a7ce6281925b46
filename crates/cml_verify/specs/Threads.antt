-- Threads over a shared world.
use Rattle.std.specs.Prelude.{◌≡◌, ◌≢◌, ℕ, Bool, true, false, ◌&&◌, List, [], ◌++◌, Option, Some, None, option_map, slice_get, slice_set, if◌then◌else◌}
use Rattle.std.specs.Option.{option_map_or}
use Rattle.cml_verify.specs.Systems.{System}

-- the world, and the term of each thread by its number
pub record Stand (W T : Type 0) : Type 0 where
  pub world : W
  pub terms : List T

-- what a turn comes to: the world after it, the thread's term, and the terms of the threads that begin by it
pub record Turned (W T : Type 0) : Type 0 where
  pub world : W
  pub term : T
  pub begun : List T

-- a turn of a thread, or an event that no thread does alone
pub data Act (J : Type 0) : Type 0 where
  turn : ℕ → Act J
  event : J → Act J

pub record Machine (W T J : Type 0) : Type 0 where
  pub start : Stand W T
  pub runs : W → ℕ → Bool
  pub time : W → ℕ
  pub turned : W → ℕ → T → Turned W T
  pub happens : Stand W T → J → Option (Stand W T)
  -- whether a turn of this thread with this term is local
  pub is_local : ℕ → T → Bool

module _ {W T J : Type 0} (m : Machine W T J) where
  abbrev pub after_turn : Stand W T → ℕ → Turned W T → Stand W T
  after_turn s t d = record { world = d.world; terms = slice_set s.terms t d.term ++ d.begun }

  abbrev pub stepped : Stand W T → Act J → Option (Stand W T)
  stepped s (turn t) = if m.runs s.world t then option_map (λ x. after_turn s t (m.turned s.world t x)) (slice_get s.terms t) else None
  stepped s (event j) = m.happens s j

  abbrev pub is_quiet : Stand W T → Act J → Bool
  is_quiet s (turn t) = m.runs s.world t && option_map_or (m.is_local t) (slice_get s.terms t) false
  is_quiet s (event j) = false

  -- The event was of others than the thread t: it runs on, at the same time and with its term; and any term of it would have made no difference.
  pub record LeavesAlone (s : Stand W T) (j : J) (t : ℕ) (d : Stand W T) : Type 0 where
    pub runs : m.runs d.world t ≡ true
    pub time : m.time d.world ≡ m.time s.world
    pub term : slice_get d.terms t ≡ slice_get s.terms t
    pub whatever : (x : T) → m.happens (record { world = s.world; terms = slice_set s.terms t x }) j ≡ Some (record { world = d.world; terms = slice_set d.terms t x })

  -- a local turn leaves the world as it is, begins no thread, and reads no more of the world than the time
  pub record LeavesTheWorld (t : ℕ) (x : T) : Type 0 where
    pub world : (w : W) → (m.turned w t x).world ≡ w
    pub begun : (w : W) → (m.turned w t x).begun ≡ []
    pub reads : (v w : W) → m.time v ≡ m.time w → (m.turned v t x).term ≡ (m.turned w t x).term

  pub record AreLocal : Type 0 where
    pub turns : (t : ℕ) (x : T) → m.is_local t x ≡ true → LeavesTheWorld t x
    -- a turn of another thread leaves a thread running, at the same time
    pub runs_on : (w : W) (t u : ℕ) (y : T) → t ≢ u → m.runs w t ≡ true → m.runs (m.turned w u y).world t ≡ true
    pub time : (w : W) (u : ℕ) (y : T) → m.time (m.turned w u y).world ≡ m.time w
    pub events : (s : Stand W T) (j : J) (t : ℕ) (d : Stand W T) → m.runs s.world t ≡ true → m.happens s j ≡ Some d → LeavesAlone s j t d

abbrev pub turn_owner : {J : Type 0} → Act J → Option ℕ
turn_owner (turn t) = Some t
turn_owner (event j) = None

abbrev pub system_of : {W T J : Type 0} → Machine W T J → (Stand W T → List (Act J)) → System (Stand W T) (Act J)
system_of m listed = record { start = m.start; step = stepped m; allowed = listed; owner = turn_owner; quiet = is_quiet m }
