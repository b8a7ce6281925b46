use Rattle.cml_rules.proofs.Turning.{no_turn_synchronizes}
use Rattle.cml_rules.proofs.law.no_turn_synchronizes.Goals as goal

pub returns : goal.returns
returns c = no_turn_synchronizes
