use Rattle.cml_rules.proofs.Waited.{pending_are_forced}
use Rattle.cml_rules.proofs.law.pending_are_forced.Goals as goal

pub returns : goal.returns
returns c = pending_are_forced
