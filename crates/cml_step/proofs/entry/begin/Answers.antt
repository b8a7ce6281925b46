use Rattle.std.proofs.Common.{ap, refl, ◌∙◌}
use Rattle.cml_value.specs.Value.{values}
use Rattle.cml_step.specs.declared.call.Wait.TheVariants as wait
use Rattle.cml_step.specs.declared.call.Call.{Call}
use Rattle.cml_step.proofs.StackLemmas.{begun_by, begun_by_fits}
use Rattle.cml_step.proofs.entry.begin.Goals as goal

pub returns-clause-term : goal.returns-clause-term
returns-clause-term c p =
    let call : Call = record { func = c.func.result; at = 0; slots = c.in_ok-copies.field-0; wait = wait.Runs; asked = 0 } in
    begun_by p c.args.function.now call c.func.ensures (ap values c.in_ok-copies.ensures ∙ c.args-2.ensures) refl refl

pub returns-clause-fits : goal.returns-clause-fits
returns-clause-fits c p h =
    let call : Call = record { func = c.func.result; at = 0; slots = c.in_ok-copies.field-0; wait = wait.Runs; asked = 0 } in
    begun_by_fits p c.args.function.now call c.func.ensures (ap values c.in_ok-copies.ensures ∙ c.args-2.ensures) refl h
