use Rattle.std.proofs.Common.{◌≡◌, ◌∙◌, ◌<◌, ℕ, List, true, length, refl, ap, sym, arith}
use Rattle.cml_value.specs.Limits.{value_fits}
use Rattle.cml_value.specs.Value.{PlainValue}
use Rattle.cml_objects.specs.Posts.{port_numbers, any_is_full, posted}
use Rattle.cml_book.specs.MakePort.{has_port}
use Rattle.cml_book.specs.Views.{queues_of, ports_of}
use Rattle.cml_book.specs.contracts.state.State.{the_view}
use Rattle.cml_book.proofs.ObjectLemmas.{stays_kept}
use Rattle.cml_book.proofs.PortLemmas.{found_there, ports_found, each_below, ports_below}
use Rattle.cml_book.proofs.PortSteps.{queue_count, channel_count, multicast_does, multicast_not}
use Rattle.cml_book.proofs.PostedLights.{multicast_true}
use Rattle.cml_book.proofs.state.State.multicast.Goals as goal

pub send-requires : goal.send-requires
send-requires g c =
    let s = c.self.inside in
    let there : c.args.channel.0 < length s.mchans.items = omega (arith, c.if-place-len.false, c.len.ensures) in
    let found = found_there s.mchans.items c.args.channel.0 c.index.result.now there c.index.ensures in
    record { there = each_below s.mchans.items c.args.channel.0 _ c.index.result.now found (ports_below s.mchans.items s.port_channels.items _ c.args.channel.0 c.self.invariant.2) }

pub returns-in-Err-clause-step : goal.returns-in-Err-clause-step
returns-in-Err-clause-step g c =
    let s = c.self.inside in
    let there : c.args.channel.0 < length s.mchans.items = omega (arith, c.if-place-len.false, c.len.ensures) in
    let ids = ports_found s.mchans.items c.args.channel.0 c.index.result.now (found_there s.mchans.items c.args.channel.0 c.index.result.now there c.index.ensures) in
    let within : c.args.channel.0 < length (ports_of s.mchans.items) = omega (arith, there, channel_count s.mchans.items) in
    let fits : value_fits c.args.message ≡ true = sym c.fits.ensures ∙ c.if-not-fits.false in
    let full = c.in-Err.ensures.full ∙ ap (λ (ps : List ℕ). any_is_full ps (queues_of s.ports.objects)) (sym ids) in
    let same = ap (λ (ps : List (List PlainValue)). record (the_view s) { ports = ps }) c.in-Err.ensures.err in
    rw (c.post_fault.ensures, ← c.self.view_is) (refl, multicast_not (Unit {0}) (the_view s) _ c.args.channel.0 c.args.message c.in-Err.fault within fits full same)

pub returns-clause-step : goal.returns-clause-step
returns-clause-step g c =
    let s = c.self.inside in
    let there : c.args.channel.0 < length s.mchans.items = omega (arith, c.if-place-len.false, c.len.ensures) in
    let ids = ports_found s.mchans.items c.args.channel.0 c.index.result.now (found_there s.mchans.items c.args.channel.0 c.index.result.now there c.index.ensures) in
    let within : c.args.channel.0 < length (ports_of s.mchans.items) = omega (arith, there, channel_count s.mchans.items) in
    let fits : value_fits c.args.message ≡ true = sym c.fits.ensures ∙ c.if-not-fits.false in
    let free = ap (λ (ps : List ℕ). any_is_full ps (queues_of s.ports.objects)) ids ∙ sym c.in_default.ensures.full in
    let done = c.in_default.ensures.ok ∙ ap (λ (ps : List ℕ). posted c.args.message ps (queues_of s.ports.objects)) (sym ids) in
    rw (← c.self.view_is, done) (multicast_does (the_view s) c.args.channel.0 c.args.message within fits free)

pub returns-clause-kept : goal.returns-clause-kept
returns-clause-kept g c =
    let s = c.self.inside in
    let there : c.args.channel.0 < length s.mchans.items = omega (arith, c.if-place-len.false, c.len.ensures) in
    let ids = ports_found s.mchans.items c.args.channel.0 c.index.result.now (found_there s.mchans.items c.args.channel.0 c.index.result.now there c.index.ensures) in
    let count = queue_count s.ports.objects in
    let below : (p : ℕ) → has_port (port_numbers c.index.result.now.ports) p ≡ true → p < length (queues_of s.ports.objects)
    = λ p k. (let b = ports_below s.mchans.items s.port_channels.items _ c.args.channel.0 c.self.invariant.2 p (rw ids k) in omega (arith, b, count)) in
    rw (← c.self.view_is, c.in_default.ensures.ok) (stays_kept _ _ _ _ _ _ refl refl c.in_default.ensures.told.entries
    (multicast_true (the_view s) _ _ (port_numbers c.index.result.now.ports) c.args.message below c.in_default.ensures.told.ok))
