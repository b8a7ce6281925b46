use Rattle.cml_facts.proofs.BlockedLaws.{cant_go_on}
use Rattle.cml_facts.proofs.ending.law.who_waits_for_another_cannot_go_on.Goals as goal

pub returns : goal.returns
returns c = cant_go_on
