-- What the index keeps: the pending threads with their groups, and what it was told of lights.
use Rattle.std.specs.Prelude.{ℕ, ◌≡◌, ◌++◌, ◌<◌, ◌^◌, Bool, true, false, if◌then◌else◌, List, [], ◌∷◌, Option, Some, None, Result, OnOk, OnErr, filter, length, map, is_some}
use Rattle.std.specs.Option.{option_map_or}
use Rattle.std.specs.Map.{lookup}
use Rattle.std.specs.Coded.{Coded, code_by, coded×, coded_list, coded_bool}
use Rattle.std.specs.Prelude.{refl}
use Rattle.cml_index.specs.declared.lanes.Lanes.{Lanes}
use Rattle.cml_index.specs.declared.live.Live.{Live}
use Rattle.cml_index.specs.Live.{AreLive, AreCounted}
use Rattle.cml_index.specs.Crossing.{crosses}
use base.Stored.{Gv, gnum, gcons}
use Rattle.cml_value.specs.Value.{PlainBase}
use Rattle.cml_value.specs.Group.{PlainGroup, bases, scopes, nacks_of}
use Rattle.cml_scan.specs.World.{PlainEntry}
use Rattle.cml_scan.specs.Codes.{entry_code, light_code}
use Rattle.cml_scan.specs.Light.{lit_by}
use Rattle.cml_scan.specs.Order.{IsSorted, Every}
use Rattle.cml_scan.specs.Scan.{PlainOffer, offers_of, pairs_with, is_among}
use Rattle.cml_scan.specs.Table.{lit_after}
use Rattle.cml_scan.specs.declared.meet.Meet.{Meet}
use Rattle.cml_scan.specs.declared.meet.Meet.TheVariants.{Single}
use Rattle.cml_scan.specs.declared.meet.Place.{Place}
use Rattle.cml_value.specs.declared.number.Tid.{Tid}
use Rattle.std.specs.Borrow.{Bor}
use Rattle.cml_scan.specs.declared.object.Light.{Light}
use Rattle.cml_scan.specs.declared.object.Light.TheVariants.{Nack}
use Rattle.cml_objects.specs.declared.pairing.PairedKind.{PairedKind}
use Rattle.cml_objects.specs.declared.pairing.PairedKind.TheVariants.{Channel, Swap}
use Rattle.cml_index.specs.declared.slot.Slot.{Slot}
use Rattle.cml_index.specs.declared.slot.Slot.TheVariants.{Side, Waiters}
use Rattle.cml_objects.specs.Pairings.{side_place}
use Rattle.cml_index.specs.Slot.{same_slot, slot_by}
use Rattle.cml_index.specs.Slots.{going_at, lane_of, AreLanes}
use Rattle.std.specs.List.{flat_map}

-- the lane of a base event: that of its side, where it is a side of an object over which two threads meet, or that of its light
abbrev pub slot_of : PlainBase → Option Slot
slot_of b = slot_by (side_place b) b

-- The rows that the leaf at a place begins, if it waits for this: its own, where it can be taken alone, and those with its partners.
abbrev pub rows_at : (Light → Bool) → List PlainOffer → Place → PlainBase → List Meet
rows_at told os p b = (if lit_by told b then Single p.tid p.leaf ∷ [] else []) ++ pairs_with os (record { thread = p.tid.0; leaf = p.leaf; base = b })

-- what was told of a light, by these; where nothing was, it is unlit
abbrev pub told : List (Slot × Bool) → Light → Bool
told flags l = option_map_or (λ b. b) (lookup (same_slot (Waiters l)) flags) false

-- the pending threads, ascending, each with its group, and the lights of which something was told, with what was told last
pub record PlainIndex : Type 0 where
  pub entries : List PlainEntry
  pub flags : List (Slot × Bool)

-- the leaves of these threads that can be taken alone
abbrev pub lit_offers : List (Slot × Bool) → List PlainEntry → List PlainOffer
lit_offers flags entries = filter (λ o. lit_by (told flags) o.base) (offers_of entries)

-- the thread's leaves may stand on both sides of one channel
abbrev pub is_crosser : PlainEntry → Bool
is_crosser e = crosses (map slot_of (bases e.group))

-- the nacks of the scopes in these groups
abbrev pub nacks_in : List PlainEntry → List ℕ
nacks_in entries = flat_map (λ e. nacks_of (scopes e.group)) entries

-- something was told of the light, or its place is reserved
abbrev pub is_named : List (Slot × Bool) → Slot → Bool
is_named flags k = is_some (lookup (same_slot k) flags)

-- no light lost its place
abbrev pub KeepsPlaces : List (Slot × Bool) → List (Slot × Bool) → Type 0
KeepsPlaces old new = (k : Slot) → is_named old k ≡ true → is_named new k ≡ true

-- each of these lights has its place
abbrev pub HavePlaces : List (Slot × Bool) → List Light → Type 0
HavePlaces flags lights = Every (λ l. is_named flags (Waiters l)) lights

-- Nothing was told of any light, and none lost its place; some may have got theirs.
pub record OnlyReserves (old new : List (Slot × Bool)) : Type 0 where
  pub same : (l : Light) → told new l ≡ told old l
  pub named : KeepsPlaces old new

-- These threads are pending after a change, and these lights were turned on and off.
pub record IsChanged (pending : List PlainEntry) (lit unlit : List Light) (old new : PlainIndex) : Type 0 where
  pub entries : new.entries ≡ pending
  pub lights : (l : Light) → told new.flags l ≡ lit_after lit unlit l (told old.flags l)

-- What was told by a change with this result: these threads are pending after it, and these lights were turned on and off. A refused one
-- told nothing, and looked at nothing. The last two are the looks before it and after it.
pub record HasTold {A E : Type 0} (result : Result A E) (pending : List PlainEntry) (lit unlit : List Light) (old new : PlainIndex) (before after : ℕ) : Type 0 where
  pub ok : OnOk result (new.entries ≡ pending)
  pub ok_lit : OnOk result ((l : Light) → told new.flags l ≡ lit_after lit unlit l (told old.flags l))
  pub err : OnErr result (new.entries ≡ old.entries)
  pub err_lit : OnErr result ((l : Light) → told new.flags l ≡ told old.flags l)
  pub err_cost : OnErr result (after ≡ before)

-- the place of a nack among the lights
abbrev pub slot_of_nack : ℕ → Slot
slot_of_nack k = Waiters (Nack (record { 0 = k }))

-- The threads ascend; each lane has the offers that stand in it; the objects are there on which two offers may meet, with how many can
-- stand first on each channel; all leaves, those that can be taken alone, and the threads that may stand on both sides of one channel are
-- counted; no leaf is to go; and each nack that can fire with a pending group has its place among the lights.
pub record AreIndexed (entries : List PlainEntry) (lanes : Lanes) (live : Live) (flags : List (Slot × Bool)) (leaves crossing lit : ℕ) : Type 0 where
  pub sorted : IsSorted entries
  pub placed : AreLanes slot_of lanes (offers_of entries)
  pub sides : AreLive lanes live
  pub counted : AreCounted lanes live
  pub still : (k : Slot) → going_at lanes k ≡ 0
  pub all : leaves ≡ length (offers_of entries)
  pub cross : crossing ≡ length (filter is_crosser entries)
  pub alone : lit ≡ length (lit_offers flags entries)
  pub named : Every (λ k. is_named flags (slot_of_nack k)) (nacks_in entries)

-- a lane has fewer offers of these threads than two to the power of this number of binary digits, whichever lane it is
abbrev pub HasDigits : List PlainEntry → ℕ → Type 0
HasDigits entries digits = (k : Slot) → length (lane_of slot_of k (offers_of entries)) < 2 ^ digits

-- how many leaves these threads have, and the thread that comes, if one does
abbrev pub gone_leaves : List Tid → List PlainEntry → ℕ
gone_leaves gone entries = length (filter (λ o. is_among gone o.thread) (offers_of entries))

abbrev pub came_leaves : Option (Tid × Bor PlainGroup) → ℕ
came_leaves None = 0
came_leaves (Some c) = length (bases c.1.now)

-- The codes of the above: trees of numbers from which they can be read back. The toolchain asks for them; no rule uses them.
abbrev pub kind_gv : PairedKind → ℕ
kind_gv Channel = 0
kind_gv Swap = 1

pub kind_gv_inj : (a b : PairedKind) → kind_gv a ≡ kind_gv b → a ≡ b
kind_gv_inj Channel Channel p = refl
kind_gv_inj Swap Swap p = refl
kind_gv_inj Channel Swap p = cc
kind_gv_inj Swap Channel p = cc

abbrev pub slot_gv : Slot → Gv
slot_gv (Side heads object) = gcons (gnum 0) (gcons (coded_bool.code heads) (gcons (gnum (kind_gv object.kind)) (gnum object.number)))
slot_gv (Waiters light) = gcons (gnum 1) (light_code.code light)

pub slot_gv_inj : (a b : Slot) → slot_gv a ≡ slot_gv b → a ≡ b
slot_gv_inj (Side h n) (Side g m) p =
    let heads : h ≡ g = coded_bool.inj h g cc in
    let kind : n.kind ≡ m.kind = kind_gv_inj n.kind m.kind cc in
    let number : n.number ≡ m.number = cc in
    λ i. Side (heads i) (record { kind = kind i; number = number i })
slot_gv_inj (Waiters l) (Waiters m) p = let same : l ≡ m = light_code.inj l m cc in λ i. Waiters (same i)
slot_gv_inj _ _ p = cc

abbrev pub slot_code : Coded Slot
slot_code = record { code = slot_gv; inj = slot_gv_inj }

abbrev pub index_code : Coded PlainIndex
index_code = code_by (List PlainEntry × List (Slot × Bool)) (coded× (coded_list entry_code) (coded_list (coded× slot_code coded_bool))) (λ x. (x.entries, x.flags)) (λ p. record { entries = p.0; flags = p.1 }) (λ _. refl)
