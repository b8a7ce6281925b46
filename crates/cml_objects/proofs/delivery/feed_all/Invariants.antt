use Rattle.std.proofs.Common.{◌≡◌, ◌<◌, ◌≤◌, ◌-◌, ℕ, false, get_or, length, drop, replicate}
use Rattle.cml_value.specs.declared.number.PortId.{PortId}
use Rattle.cml_objects.specs.Registered.{HasRoomAt}
use Rattle.cml_objects.specs.Queues.{is_full_at}
use Rattle.cml_objects.specs.Posts.{port_numbers, unread, port_has_room, posted}
use Rattle.cml_objects.proofs.delivery.feed_all.Given as goal

abbrev pub invariant-loop-id : goal.invariant-loop-id
invariant-loop-id l =
    let none : PortId = record { 0 = 0 } in record {
      left : posted l.message (port_numbers (drop l.id-index l.ids)) (unread l.ports.objects) ≡ posted l.message (port_numbers l.ids) (unread l.initial.ports.objects);
      copied : l.copies.items ≡ replicate (length l.ids - l.id-index) l.message;
      waits : l.ports.waits ≡ l.initial.ports.waits;
      spare : l.ports.room ≡ l.initial.ports.room;
      len : length l.ports.objects ≡ length l.initial.ports.objects;
      room : (k : ℕ) → l.id-index ≤ k → k < length l.ids → HasRoomAt port_has_room l.ports.objects (get_or l.ids k none).0;
      open_left : (k : ℕ) → l.id-index ≤ k → k < length l.ids → is_full_at (unread l.ports.objects) (get_or l.ids k none).0 ≡ false;
    }
