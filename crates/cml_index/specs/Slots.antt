-- The lanes, and the leaves of one group by the lane in which each stands.
use Rattle.std.specs.Prelude.{ℕ, ◌≡◌, ◌<◌, ◌+◌, ◌^◌, length, Bool, false, if◌then◌else◌, List, [], ◌∷◌, Option, Some, None, map, filter}
use Rattle.std.specs.List.{list_any}
use Rattle.cml_index.specs.declared.slot.Wait.{Wait}
use Rattle.cml_index.specs.declared.slot.Wait.TheVariants.{In}
use Rattle.cml_index.specs.declared.slot.Slot.{Slot}
use Rattle.cml_index.specs.Slot.{same_slot}
use Rattle.cml_scan.specs.declared.meet.Place.{Place}
use Rattle.cml_value.specs.Value.{PlainBase}
use Rattle.cml_scan.specs.Scan.{PlainOffer}
use Rattle.cml_scan.specs.Order.{place}
use Rattle.cml_index.specs.declared.lanes.Lanes.{Lanes}
use Rattle.cml_index.specs.Stands.{stand_at, places_in, late_in, going_in, room_in}

-- the slot of a leaf that waits for this, if it stands in one
abbrev pub slot_in : Wait → Option Slot
slot_in (In k) = Some k
slot_in _ = None

-- the slot is this one
abbrev pub is_slot : Slot → Option Slot → Bool
is_slot k None = false
is_slot k (Some j) = same_slot k j

-- the leaves, numbered from this one on, that stand in this slot
abbrev pub slot_leaves : Slot → ℕ → List (Option Slot) → List ℕ
slot_leaves k leaf [] = []
slot_leaves k leaf (s ∷ ss) = if is_slot k s then leaf ∷ slot_leaves k (leaf + 1) ss else slot_leaves k (leaf + 1) ss

-- one of these leaves stands in the slot
abbrev pub has_slot : Slot → List (Option Slot) → Bool
has_slot k ss = list_any (is_slot k) ss

-- what stands in a slot: the offers, the leaves that are to come, how many are to go, and how much room there is
abbrev pub lane_at : Lanes → Slot → List Place
lane_at lanes k = places_in (stand_at lanes k)

abbrev pub late_at : Lanes → Slot → List ℕ
late_at lanes k = late_in (stand_at lanes k)

abbrev pub going_at : Lanes → Slot → ℕ
going_at lanes k = going_in (stand_at lanes k)

abbrev pub room_at : Lanes → Slot → ℕ
room_at lanes k = room_in (stand_at lanes k)

-- each lane is shorter than two to the power of this number of binary digits
abbrev pub HaveDigits : Lanes → ℕ → Type 0
HaveDigits lanes digits = (k : Slot) → length (lane_at lanes k) < 2 ^ digits

-- those of these offers that stand in this slot
abbrev pub lane_of : (PlainBase → Option Slot) → Slot → List PlainOffer → List Place
lane_of slot k offers = map place (filter (λ o. is_slot k (slot o.base)) offers)

-- each lane has the offers that stand in its slot
abbrev pub AreLanes : (PlainBase → Option Slot) → Lanes → List PlainOffer → Type 0
AreLanes slot lanes offers = (k : Slot) → lane_at lanes k ≡ lane_of slot k offers
