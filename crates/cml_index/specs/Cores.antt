-- The core of an index, and what a change of it leaves as it was.
use Rattle.std.specs.Prelude.{◌≡◌, ◌≢◌, ◌≤◌, ◌<◌, ◌+◌, true, List, [], All, AllPairs, map, length}
use Rattle.cml_value.specs.Group.{PlainGroup, bases, scopes, nacks_of}
use Rattle.cml_value.specs.declared.number.Tid.{Tid}
use Rattle.cml_scan.specs.World.{PlainEntry}
use Rattle.cml_scan.specs.declared.object.Light.{Light}
use Rattle.cml_scan.specs.Order.{Every}
use Rattle.cml_scan.specs.Table.{IsThere, with_entry}
use Rattle.cml_index.specs.declared.slot.Slot.{Slot}
use Rattle.cml_index.specs.declared.state.IndexState.{IndexState}
use Rattle.cml_index.specs.Slots.{lane_at, late_at, room_at, slot_leaves}
use Rattle.cml_index.specs.Live.{have_side, HasPlace}
use Rattle.cml_objects.specs.declared.pairing.PairedId.{PairedId}
use Rattle.cml_index.specs.Posts as posts
use Rattle.cml_index.specs.Posts.{PlainIndex, KeepsPlaces, slot_of, is_named, slot_of_nack}

-- all that a core keeps fits its entries
abbrev pub IsIndexed : IndexState → Type 0
IsIndexed c = posts.AreIndexed c.entries.items c.lanes c.live c.flags.entries c.leaves c.crossing c.lit

-- no leaf is to come
abbrev pub IsAtRest : IndexState → Type 0
IsAtRest c = (k : Slot) → late_at c.lanes k ≡ []

-- what an index with this core was told
abbrev pub seen : IndexState → PlainIndex
seen c = record { entries = c.entries.items; flags = c.flags.entries }

-- each of these threads is pending, and is named once
pub record AreThere (entries : List PlainEntry) (gone : List Tid) : Type 0 where
  pub there : All (IsThere entries) gone
  pub once : AllPairs (λ a b. a.0 ≢ b.0) gone

-- No thread came or went, no offer did, and nothing was told.
pub record IsSame (old new : IndexState) : Type 0 where
  pub entries : new.entries.items ≡ old.entries.items
  pub leaves : new.leaves ≡ old.leaves
  pub lanes : (k : Slot) → lane_at new.lanes k ≡ lane_at old.lanes k
  pub told : (l : Light) → posts.told new.flags.entries l ≡ posts.told old.flags.entries l

-- No thread came or went, and no offer did.
pub record IsStill (old new : IndexState) : Type 0 where
  pub entries : new.entries ≡ old.entries
  pub lanes : new.lanes ≡ old.lanes
  pub leaves : new.leaves ≡ old.leaves
  pub live : new.live ≡ old.live

-- The thread came with its leaves, and nothing was told of any light.
pub record HasCome (entry : PlainEntry) (old new : IndexState) : Type 0 where
  pub entries : new.entries.items ≡ with_entry entry old.entries.items
  pub leaves : new.leaves ≡ old.leaves + length (bases entry.group)
  pub flags : new.flags ≡ old.flags

-- No lane is longer than before, none has less room, the same leaves are to come, there is no less room for leaves and threads, and no
-- object and no light lost its place.
pub record HasFreed (old new : IndexState) : Type 0 where
  pub room : (k : Slot) → room_at old.lanes k ≤ room_at new.lanes k
  pub shorter : (k : Slot) → length (lane_at new.lanes k) ≤ length (lane_at old.lanes k)
  pub lighter : new.leaves ≤ old.leaves
  pub seat : old.entries.room ≤ new.entries.room
  pub places : (n : PairedId) → HasPlace old.live n → HasPlace new.live n
  pub late : (k : Slot) → late_at new.lanes k ≡ late_at old.lanes k
  pub named : KeepsPlaces old.flags.entries new.flags.entries

-- There is room for a thread with this group: a seat, the places of its objects, and one among the lights for each nack of its scopes; its
-- leaves can be counted; and it is noted to which lanes they are to come, where there is room for them.
pub record HasRoom (core : IndexState) (group : PlainGroup) : Type 0 where
  pub seat : 0 < core.entries.room
  pub places : (n : PairedId) → have_side n (map slot_of (bases group)) ≡ true → HasPlace core.live n
  pub small : core.leaves + length (bases group) ≤ 18446744073709551615
  pub late : (k : Slot) → late_at core.lanes k ≡ slot_leaves k 0 (map slot_of (bases group))
  pub room : (k : Slot) → length (late_at core.lanes k) ≤ room_at core.lanes k
  pub named : Every (λ k. is_named core.flags.entries (slot_of_nack k)) (nacks_of (scopes group))
