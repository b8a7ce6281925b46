use Rattle.cml_rules.proofs.Taking.{steps_can_be_taken}
use Rattle.cml_rules.proofs.law.steps_can_be_taken.Goals as goal

pub returns : goal.returns
returns c = steps_can_be_taken
