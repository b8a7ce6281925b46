-- Groups with leaves on both sides of one channel.
use Rattle.std.specs.Prelude.{Bool, true, false, ◌&&◌, ◌||◌, nat_lt, List, Option, Some, length}
use Rattle.std.specs.Bool.{beq}
use Rattle.std.specs.List.{list_any}
use Rattle.cml_index.specs.declared.slot.Slot.{Slot}
use Rattle.cml_index.specs.declared.slot.Slot.TheVariants.{Side}
use Rattle.cml_index.specs.Slots.{slot_leaves}

-- a leaf in this slot stands on this side of an object: that of those who can stand first, or the other
abbrev pub is_on : Bool → Option Slot → Bool
is_on heads (Some (Side own object)) = beq own heads
is_on heads _ = false

-- a leaf in this slot can stand first on an object on whose other side one of these leaves stands
abbrev pub meets_own : List (Option Slot) → Option Slot → Bool
meets_own ss (Some (Side heads object)) = heads && nat_lt 0 (length (slot_leaves (Side false object) 0 ss))
meets_own ss _ = false

-- Leaves in these slots, all of one thread, may stand on both sides of one channel. Of more than 64 it is enough that they stand on sides of
-- both kinds.
abbrev pub crosses : List (Option Slot) → Bool
crosses ss = list_any (is_on true) ss && (list_any (is_on false) ss && (nat_lt 64 (length ss) || list_any (meets_own ss) ss))
