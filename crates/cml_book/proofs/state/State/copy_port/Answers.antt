use Rattle.std.proofs.Common.{◌∙◌, ◌<◌, ℕ, List, Some, length, refl, ap, sym, arith}
use Rattle.cml_value.specs.declared.number.PortId.{PortId}
use Rattle.cml_value.specs.Value.{PlainValue}
use Rattle.cml_book.specs.Outcomes.{max_objects}
use Rattle.cml_book.specs.Homes.{channel_numbers}
use Rattle.cml_book.specs.Views.{queues_of, ports_of}
use Rattle.cml_book.specs.contracts.state.State.{the_view}
use Rattle.cml_book.proofs.ObjectLemmas.{stays_kept}
use Rattle.cml_book.proofs.PortLemmas.{found_there, home_there}
use Rattle.cml_book.proofs.PortSteps.{queue_count, channel_count, queue_get, home_get, copy_port_does}
use Rattle.cml_book.proofs.PostedLights.{make_port_true}
use Rattle.cml_book.proofs.state.State.copy_port.Goals as goal

pub add_port-requires-clause-there : goal.add_port-requires-clause-there
add_port-requires-clause-there g c =
    let s = c.self.inside in
    let there : c.args.port.0 < length s.port_channels.items = omega (arith, c.if-place-len.false, c.len.ensures) in
    let home = home_get s.port_channels.items c.args.port.0 c.index-home.result.now (found_there _ _ _ there c.index-home.ensures) in
    let i = home_there (ports_of s.mchans.items) (channel_numbers s.port_channels.items) c.args.port.0 _ c.self.invariant.2.housed home in
    omega (arith, i, channel_count s.mchans.items)

pub returns-clause-step : goal.returns-clause-step
returns-clause-step g c =
    let s = c.self.inside in
    let there : c.args.port.0 < length s.port_channels.items = omega (arith, c.if-place-len.false, c.len.ensures) in
    let within : c.args.port.0 < length (queues_of s.ports.objects) = omega (arith, there, c.self.invariant.2.each, queue_count s.ports.objects) in
    let few : length (queues_of s.ports.objects) < max_objects = omega (arith, c.len-2.ensures, c.if-len-ge-MAX_OBJECTS.false, queue_count s.ports.objects) in
    let home = home_get s.port_channels.items c.args.port.0 c.index-home.result.now (found_there _ _ _ there c.index-home.ensures) in
    let unread = queue_get s.ports.objects c.args.port.0 c.in-Some.original.now (sym c.in-Some.ensures) ∙ ap (λ (items : List PlainValue). Some items) (sym c.in-Ok.ensures) in
    let made = ap (λ (n : ℕ). let port : PortId = record { 0 = n } in port) c.in-Ok-add_port.ensures.added.id in
    rw (← c.self.view_is, c.in-Ok-add_port.ensures.added.channels, c.in-Ok-add_port.ensures.added.ports, made, ← queue_count s.ports.objects)
    (copy_port_does (the_view s) (channel_numbers s.port_channels.items) c.args.port.0 c.index-home.result.now.0 c.in-Ok.copy.items within few c.self.invariant.2.housed home unread)

pub returns-clause-kept : goal.returns-clause-kept
returns-clause-kept g c =
    rw (← c.self.view_is, c.in-Ok-add_port.ensures.added.ports) (stays_kept _ _ _ _ _ _ refl refl c.in-Ok-add_port.ensures.told.entries
    (make_port_true (the_view c.self.inside) _ _ (ports_of c.add_port.new.channels.items) c.in-Ok.copy.items _ (sym (queue_count c.self.inside.ports.objects)) c.in-Ok-add_port.ensures.told.ok))
