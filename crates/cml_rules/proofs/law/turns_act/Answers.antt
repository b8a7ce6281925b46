use Rattle.cml_rules.proofs.Turning.{turns_act}
use Rattle.cml_rules.proofs.law.turns_act.Goals as goal

pub returns : goal.returns
returns c = turns_act
