-- The lane in which an offer stands, and the lane of those whom it meets.
use Rattle.std.specs.Prelude.{Bool, if◌then◌else◌, Option, Some, None, option_map}
use Rattle.cml_value.specs.Value.{PlainBase}
use Rattle.cml_value.specs.declared.number.Tid.{Tid}
use Rattle.cml_scan.specs.Light.{light}
use Rattle.cml_objects.specs.declared.lane.PartnerThreads.{PartnerThreads}
use Rattle.cml_objects.specs.declared.pairing.PairedId.{PairedId}
use Rattle.cml_objects.specs.declared.pairing.SidePlace.{SidePlace}
use Rattle.cml_objects.specs.Pairings.{one_lane, side_place, partner_threads}
use Rattle.cml_index.specs.declared.slot.Slot.{Slot}
use Rattle.cml_index.specs.declared.slot.Slot.TheVariants.{Side, Waiters}
use Rattle.cml_index.specs.contracts.slot.SlotPartialEq.TheImpl as derived

-- the two lanes are the same: they are the same side of the same object, or wait for the same light
abbrev pub same_slot : Slot → Slot → Bool
same_slot = derived.ghosts.eq

abbrev pub slot_by : Option SidePlace → PlainBase → Option Slot
slot_by (Some side) b = Some (Side side.heads side.object)
slot_by None b = option_map Waiters (light b)

-- the lane of those whom an offer meets that stands first on the object: the other side, or, where all sides are alike, its own
abbrev pub met_lane : PairedId → Slot
met_lane object = Side (one_lane object.kind) object

abbrev pub met_at : Option SidePlace → Tid → Option (Slot × PartnerThreads)
met_at (Some side) tid = if side.heads then Some (met_lane side.object, partner_threads side.object.kind tid) else None
met_at None tid = None

-- the lane of those whom a base event of the thread meets, where it is a side that can stand first, and which of them
abbrev pub met_by : PlainBase → Tid → Option (Slot × PartnerThreads)
met_by b tid = met_at (side_place b) tid
