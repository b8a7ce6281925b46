use Rattle.cml_rules.proofs.Choosing.{fires_outside}
use Rattle.cml_rules.proofs.law.nacks_fire_outside.Goals as goal

pub returns : goal.returns
returns c = fires_outside
