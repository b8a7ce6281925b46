use Rattle.std.proofs.Common.{◌≡◌, drop}
use Rattle.cml_objects.specs.Posts.{port_numbers, any_is_full, unread}
use Rattle.cml_objects.proofs.delivery.any_is_full.Given as goal

abbrev pub invariant-loop-id : goal.invariant-loop-id
invariant-loop-id l = any_is_full (port_numbers (drop l.id-index l.ids)) (unread l.ports.objects) ≡ any_is_full (port_numbers l.ids) (unread l.ports.objects)
