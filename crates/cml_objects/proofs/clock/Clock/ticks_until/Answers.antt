use Rattle.std.proofs.Common.{◌≡◌, sym, ◌∙◌, append-nil}
use Rattle.std.specs.Map.{keys_of}
use Rattle.std.specs.List.{filter}
use Rattle.cml_objects.proofs.Ticks.{is_between, lights_exact, ticks_in_order}
use Rattle.cml_objects.proofs.clock.Clock.ticks_until.Goals as goal

pub returns-clause-exact : goal.returns-clause-exact
returns-clause-exact c = λ t.
    let iterator = c.into_iter-tick-iterator.result in
    let all : c.loop-tick.ticks.items ≡ keys_of iterator = sym (append-nil c.loop-tick.ticks.items) ∙ (rw c.in-None.ensures.steps.0 at c.loop-tick.invariant) in
    let part : iterator ≡ filter (λ e. is_between c.self.inside.tick c.args.to e.0) c.self.inside.waited.entries =
    c.into_iter-tick-iterator.ensures.into_iter_gives ∙ c.range-tick-items.ensures.between tt in
    rw (all, part, ← c.self.view_is) (lights_exact (record { tick = c.self.inside.tick; waited = c.self.inside.waited.entries }) c.args.to t c.self.invariant)

pub returns-clause-order : goal.returns-clause-order
returns-clause-order c =
    let iterator = c.into_iter-tick-iterator.result in
    let all : c.loop-tick.ticks.items ≡ keys_of iterator = sym (append-nil c.loop-tick.ticks.items) ∙ (rw c.in-None.ensures.steps.0 at c.loop-tick.invariant) in
    let part : iterator ≡ filter (λ e. is_between c.self.inside.tick c.args.to e.0) c.self.inside.waited.entries =
    c.into_iter-tick-iterator.ensures.into_iter_gives ∙ c.range-tick-items.ensures.between tt in
    rw (all, part) (ticks_in_order (is_between c.self.inside.tick c.args.to) c.self.inside.waited.entries c.range-tick-items.ensures.ordered)
