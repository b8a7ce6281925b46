use Rattle.std.proofs.Common.{◌≡◌, ◌++◌, drop}
use Rattle.cml_objects.specs.Posts.{port_numbers, unread}
use Rattle.cml_book.specs.Homes.{first_lights}
use Rattle.cml_book.proofs.ports.unlit_ports.Given as goal

abbrev pub invariant-loop-id : goal.invariant-loop-id
invariant-loop-id l = l.lights.items ++ first_lights (port_numbers (drop l.id-index l.ids)) (unread l.ports.objects) ≡ first_lights (port_numbers l.ids) (unread l.ports.objects)
