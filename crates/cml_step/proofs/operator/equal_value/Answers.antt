use Rattle.std.proofs.Common.{ap, ◌∙◌}
use Rattle.cml_value.specs.Value.{truth}
use Rattle.cml_step.proofs.SameLemmas.{same_is}
use Rattle.cml_step.proofs.operator.equal_value.Goals as goal

pub returns : goal.returns
returns c = c.new.ensures ∙ ap truth (same_is c.args.first.now c.args.second.now c.same.result c.same.ensures)
