use Rattle.cml_rules.proofs.Running.{runs_take_steps}
use Rattle.cml_rules.proofs.law.runs_take_steps.Goals as goal

pub returns : goal.returns
returns c = runs_take_steps
