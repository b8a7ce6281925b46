-- What a book keeps at all times.
use Rattle.std.specs.Prelude.{ℕ, ◌≡◌, ◌+◌, ◌*◌, ◌≤◌, ◌==◌, Bool, true, false, List, [], length, All, Option, Some, is_none, slice_get, count_by}
use Rattle.std.specs.List.{flat_map, filter_map, list_all}
use Rattle.cml_value.specs.Group.{PlainGroup, bases, scopes, nacks_of, leaf_count}
use Rattle.cml_group.specs.LaidOut.{max_leaves}
use Rattle.cml_scan.specs.World.{PlainThread, PlainNack, fresh_of, live, PlainWorld, PlainEntry, pending, pending_from}
use Rattle.cml_scan.specs.Table.{TellsLights}
use Rattle.cml_value.specs.Value.{PlainBase, at_tick}
use Rattle.cml_objects.specs.Registered.{WaitingLeaf}
use Rattle.cml_objects.specs.Clocks.{leaves_at}
use Rattle.cml_scan.specs.Light.{light as light_seen}
use Rattle.cml_scan.specs.declared.object.Light.{Light}
use Rattle.cml_scan.specs.declared.object.Light.TheVariants as light
use Rattle.cml_book.specs.Outcomes.{max_threads, max_objects}
use Rattle.cml_book.specs.Sync.{times_named}
use Rattle.cml_book.specs.Clock.{bases_awaited}

-- the nacks of the scopes of all these pending groups
abbrev pub pending_nacks : List PlainEntry → List ℕ
pending_nacks entries = flat_map (λ e. nacks_of (scopes e.group)) entries

-- 1 for a live nack, and else 0
abbrev pub lives : Option PlainNack → ℕ
lives (Some live) = 1
lives _ = 0

-- A nack is live exactly where a pending group has its branch, and then it has just one branch, in one group.
abbrev pub NacksLive : PlainWorld → Type 0
NacksLive w = (k : ℕ) → count_by (λ j. j == k) (pending_nacks (pending w)) ≡ lives (slice_get w.nacks k)

-- the light of a nack
abbrev pub nack_light : ℕ → Light
nack_light k = light.Nack (record { 0 = k })

-- the lights that these base events look at
abbrev pub lights_in : List PlainBase → List Light
lights_in bs = filter_map light_seen bs

-- no more threads, objects and nacks exist than are allowed
pub record AreFew (threads channels swaps ivars mvars mailboxes mchans ports nacks : ℕ) : Type 0 where
  pub few_threads : threads ≤ max_threads
  pub few_channels : channels ≤ max_objects
  pub few_swaps : swaps ≤ max_objects
  pub few_ivars : ivars ≤ max_objects
  pub few_mvars : mvars ≤ max_objects
  pub few_mailboxes : mailboxes ≤ max_objects
  pub few_mchans : mchans ≤ max_objects
  pub few_ports : ports ≤ max_objects
  pub few_nacks : nacks ≤ max_objects

-- the base event waits for this tick
abbrev pub awaits_tick : ℕ → PlainBase → Bool
awaits_tick t (at_tick u) = u == t
awaits_tick t _ = false

-- how many of these base events wait for the tick
abbrev pub times_awaited : ℕ → List PlainBase → ℕ
times_awaited t bs = count_by (awaits_tick t) bs

-- the base event waits for no tick
abbrev pub has_no_tick : PlainBase → Bool
has_no_tick (at_tick t) = false
has_no_tick _ = true

-- the base event looks at no light
abbrev pub has_no_light : PlainBase → Bool
has_no_light b = is_none (light_seen b)

-- no leaf of the group waits for a tick
abbrev pub is_tickless : PlainGroup → Bool
is_tickless g = list_all has_no_tick (bases g)

-- no leaf of the group looks at a light
abbrev pub is_lightless : PlainGroup → Bool
is_lightless g = list_all has_no_light (bases g)

-- what is counted for each tick are the leaves of the group that wait for it
abbrev pub CountsLeaves : List (ℕ × ℕ) → PlainGroup → Type 0
CountsLeaves waited g = (t : ℕ) → leaves_at waited t ≡ times_awaited t (bases g)

-- The clock counts for each tick the leaves of pending threads that wait for it. No pending group has more leaves than are allowed.
pub record Counts (threads : List PlainThread) (waited : List (ℕ × ℕ)) : Type 0 where
  pub counted : (t : ℕ) → leaves_at waited t ≡ times_awaited t (bases_awaited (pending_from 0 threads))
  pub narrow : All (λ e. leaf_count e.group ≤ max_leaves) (pending_from 0 threads)

-- The registers were told no waiters: only the table knows who waits for which object.
pub record AreUntold (ivars mvars mailboxes ports nacks : List WaitingLeaf) : Type 0 where
  pub untold_ivars : ivars ≡ []
  pub untold_mvars : mvars ≡ []
  pub untold_mailboxes : mailboxes ≡ []
  pub untold_ports : ports ≡ []
  pub untold_nacks : nacks ≡ []

-- each of these nacks is live, and named once
pub record AreLiveNacks (ks : List ℕ) (ns : List PlainNack) : Type 0 where
  pub each : (k : ℕ) → times_named k ks ≤ lives (slice_get ns k)

-- the nack is there, and fresh
abbrev pub is_fresh : Option PlainNack → Bool
is_fresh (Some (fresh_of owner)) = true
is_fresh _ = false

-- each of these nacks is fresh, and named once
pub record AreFresh (ks : List ℕ) (ns : List PlainNack) : Type 0 where
  pub once : (k : ℕ) → times_named k ks ≤ 1
  pub each : (k : ℕ) → 1 ≤ times_named k ks → is_fresh (slice_get ns k) ≡ true

-- room for lights: for how many that a commit turns on, and for how many that it turns off
pub record Room : Type 0 where
  pub lit : ℕ
  pub unlit : ℕ

-- There is room for all lights that a commit of two groups as large as this one turns on and off: each nack of their scopes, each tick that
-- one of their leaves waits for, and one more.
pub record FitsIn (g : PlainGroup) (room : Room) : Type 0 where
  pub nacks : 2 * length (scopes g) ≤ room.lit
  pub ticks : 2 * leaf_count g + 1 ≤ room.unlit

-- each group for which there was room in the old still has room in the new
abbrev pub RoomGrows : Room → Room → Type 0
RoomGrows old new = (g : PlainGroup) → FitsIn g old → FitsIn g new

-- The table was told all pending groups; and for each light that one of their leaves waits for, it was told whether the light is lit. The
-- nacks of the pending groups are live. There is room for the lights that a commit can turn on and off.
pub record Keeps (w : PlainWorld) (entries : List PlainEntry) (told : Light → Bool) (room : Room) : Type 0 where
  pub told_groups : entries ≡ pending w
  pub told_lights : TellsLights w told
  pub nacks_live : NacksLive w
  pub roomy : All (λ e. FitsIn e.group room) entries
