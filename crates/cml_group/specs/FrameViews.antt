-- The views of the parts of a forcing, made from their fields.
use Rattle.std.specs.Prelude.{ℕ, drop, Option}
use Rattle.cml_value.specs.Value.{PlainEvent, guard, with_nack}
use Rattle.cml_group.specs.Force.{PlainNeed, calls, needs_nack, event_of}
use Rattle.cml_group.specs.Frames.{PlainFrame, in_choice, in_wrap, in_scope, plug, IsRoom}
use Rattle.cml_group.specs.declared.force.frame.FrameKind.{FrameKind}
use Rattle.cml_group.specs.declared.force.frame.FrameKind.TheVariants as frame_kind
use Rattle.cml_group.specs.declared.force.part.Hole.{Hole}
use Rattle.cml_group.specs.declared.force.part.Hole.TheVariants as hole
use Rattle.cml_group.specs.declared.force.part.Part.{Part}
use Rattle.cml_group.specs.declared.force.part.Part.TheVariants as part

abbrev pub plain_frame : FrameKind → PlainFrame
plain_frame (frame_kind.Choose done members next) = in_choice done (drop next members.value.items)
plain_frame (frame_kind.Wrap f) = in_wrap f
plain_frame (frame_kind.Scope k) = in_scope k.0

abbrev pub plain_hole : Hole → PlainEvent
plain_hole (hole.Guard f) = guard f
plain_hole (hole.WithNack f) = with_nack f

-- what is asked for at the hole
abbrev pub hole_ask : Hole → PlainNeed
hole_ask (hole.Guard f) = calls f
hole_ask (hole.WithNack f) = needs_nack f

abbrev pub plain_part : Part → PlainEvent
plain_part (part.Whole g) = event_of g
plain_part (part.Open frames h) = plug frames.items (plain_hole h)

-- the room is that of the frames, where the part has frames
abbrev pub IsRoomOf : Option ℕ → Part → Type 0
IsRoomOf room (part.Whole g) = Unit {0}
IsRoomOf room (part.Open frames h) = IsRoom room frames.items
