use Rattle.cml_rules.proofs.Stepping.{steps_are_rows}
use Rattle.cml_rules.proofs.law.steps_are_rows.Goals as goal

pub returns : goal.returns
returns c = steps_are_rows
