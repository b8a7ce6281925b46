use Rattle.std.proofs.Common.{◌++◌, ◌∷◌, [], ap, ◌∙◌, arith}
use Rattle.cml_value.specs.Value.{event, leaf}
use Rattle.cml_group.proofs.Plugs.{given_by, all_taken}
use Rattle.cml_group.proofs.force.with_nack_event.Goals as goal

pub returns : goal.returns
returns c =
    let items = c.args-argument-items.result.now in
    c.in_ok-new.ensures.ok
    ∙ given_by c.args.nack.0 c.func.result c.args.function.now items _ c.in_ok-event.field-0
    (c.in_ok-event.ensures.ok ∙ ap event (c.new-event.ensures ∙ ap leaf c.new.ensures)) c.func.ensures c.args-argument-items.ensures
    (c.in_ok-push-2.ensures.items ∙ ap (λ l. l ++ c.in_ok-event.field-0 ∷ []) (all_taken _ items c.loop-argument.argument-index (omega arith) c.loop-argument.invariant))
