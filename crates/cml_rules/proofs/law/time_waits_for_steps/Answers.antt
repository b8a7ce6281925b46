use Rattle.cml_rules.proofs.Quiet.{time_waits, end_is_still}
use Rattle.cml_rules.proofs.law.time_waits_for_steps.Goals as goal

pub returns : goal.returns
returns c = record { time = time_waits; end = end_is_still }
