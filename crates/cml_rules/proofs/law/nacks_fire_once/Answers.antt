use Rattle.cml_rules.proofs.Firing.{nacks_settle}
use Rattle.cml_rules.proofs.law.nacks_fire_once.Goals as goal

pub returns : goal.returns
returns c = nacks_settle
