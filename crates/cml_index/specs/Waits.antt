-- What a leaf waits for, and what the index reads of it alone: whether it can be taken alone, and whom it meets.
use Rattle.std.specs.Prelude.{◌≡◌, ◌<◌, ◌^◌, Bool, true, false, ◌&&◌, if◌then◌else◌, List, [], ◌∷◌, map, length, Option, Some, None}
use Rattle.cml_value.specs.Value.{PlainBase}
use Rattle.cml_value.specs.Group.{PlainGroup, leaf, bases}
use Rattle.cml_value.specs.declared.number.Tid.{Tid}
use Rattle.cml_scan.specs.declared.object.Light.{Light}
use Rattle.cml_scan.specs.declared.meet.Meet.{Meet}
use Rattle.cml_scan.specs.declared.meet.Meet.TheVariants.{Single}
use Rattle.cml_scan.specs.declared.meet.Place.{Place}
use Rattle.cml_scan.specs.Light.{is_always}
use Rattle.cml_scan.specs.Scan.{PlainOffer}
use Rattle.cml_objects.specs.declared.lane.PartnerThreads.{PartnerThreads}
use Rattle.cml_objects.specs.Lanes.{is_of, those}
use Rattle.cml_objects.specs.Pairings.{partner_threads}
use Rattle.cml_index.specs.declared.slot.Slot.{Slot}
use Rattle.cml_index.specs.declared.slot.Slot.TheVariants.{Side, Waiters}
use Rattle.cml_index.specs.declared.slot.Wait.{Wait}
use Rattle.cml_index.specs.declared.slot.Wait.TheVariants.{Always, Never, In}
use Rattle.cml_index.specs.Slot.{met_lane}
use Rattle.cml_index.specs.Slots.{slot_in, is_slot, lane_of}
use Rattle.cml_index.specs.Heads.{pair_of}
use Rattle.cml_index.specs.Posts.{slot_of}

-- what a leaf of a base event waits for: it stands in a lane, or else can always be taken, or never
abbrev pub wait_by : Option Slot → Bool → Wait
wait_by (Some k) always = In k
wait_by None true = Always
wait_by None false = Never

abbrev pub leaf_wait : PlainBase → Wait
leaf_wait b = wait_by (slot_of b) (is_always b)

-- what is kept beside a group: what its leaves wait for, and so in which lanes they stand
pub record IsPost (group : PlainGroup) (waits : List Wait) : Type 0 where
  pub same : waits ≡ map leaf_wait (bases group)
  pub slots : map slot_in waits ≡ map slot_of (bases group)
  pub many : length waits ≡ length (bases group)
  pub small : length (bases group) < 2 ^ 32

-- the group is one leaf, which waits for this
pub record IsLone (group : PlainGroup) (wait : Wait) : Type 0 where
  pub base : PlainBase
  pub is : group ≡ leaf base
  pub same : wait ≡ leaf_wait base

-- whether a leaf in this lane can be taken alone: it waits for a light, and that is lit
abbrev pub lit_slot : (Light → Bool) → Slot → Bool
lit_slot told (Side heads object) = false
lit_slot told (Waiters l) = told l

-- whether a leaf that waits for this can be taken alone
abbrev pub lit_wait : (Light → Bool) → Wait → Bool
lit_wait told Always = true
lit_wait told Never = false
lit_wait told (In k) = lit_slot told k

-- the lane of those whom a leaf of the thread in this lane meets, where it can stand first, and which of them
abbrev pub met_slot : Slot → Tid → Option (Slot × PartnerThreads)
met_slot (Side heads object) tid = if heads then Some (met_lane object, partner_threads object.kind tid) else None
met_slot (Waiters l) tid = None

abbrev pub met_wait : Wait → Tid → Option (Slot × PartnerThreads)
met_wait Always tid = None
met_wait Never tid = None
met_wait (In k) tid = met_slot k tid

-- an offer in this slot is one of those that are meant there
abbrev pub meets_in : Option (Slot × PartnerThreads) → Option Slot → Place → Bool
meets_in None s q = false
meets_in (Some m) s q = is_slot m.0 s && is_of m.1 q

-- the rows that a leaf begins that waits for this: those with the offers that it meets, or its own, where it can be taken alone
abbrev pub rows_by_lane : (Light → Bool) → List PlainOffer → Place → Wait → Option (Slot × PartnerThreads) → List Meet
rows_by_lane told os p w (Some m) = map (pair_of p) (those m.1 (lane_of slot_of m.0 os))
rows_by_lane told os p w None = if lit_wait told w then Single p.tid p.leaf ∷ [] else []

abbrev pub rows_wait : (Light → Bool) → List PlainOffer → Place → Wait → List Meet
rows_wait told os p w = rows_by_lane told os p w (met_wait w p.tid)
