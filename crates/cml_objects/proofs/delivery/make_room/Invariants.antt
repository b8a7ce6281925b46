use Rattle.std.proofs.Common.{◌≡◌, ◌<◌, ◌≤◌, ℕ, get_or, length}
use Rattle.cml_value.specs.declared.number.PortId.{PortId}
use Rattle.cml_objects.specs.Registered.{HasRoomAt, KeepsRoom}
use Rattle.cml_objects.specs.Posts.{unread, port_has_room}
use Rattle.cml_objects.proofs.delivery.make_room.Given as goal

abbrev pub invariant-loop-id : goal.invariant-loop-id
invariant-loop-id l = record {
  same : unread l.ports.objects ≡ unread l.initial.ports.objects;
  waits : l.ports.waits ≡ l.initial.ports.waits;
  spare : l.initial.ports.room ≤ l.ports.room;
  kept : KeepsRoom port_has_room l.initial.ports.objects l.ports.objects;
  len : length l.ports.objects ≡ length l.initial.ports.objects;
  room : (k : ℕ) (d : PortId) → k < l.id-index → HasRoomAt port_has_room l.ports.objects (get_or l.ids k d).0;
}
