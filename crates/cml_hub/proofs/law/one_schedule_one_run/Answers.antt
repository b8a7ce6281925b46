use Rattle.cml_hub.proofs.Shown.{one_schedule_one_run}
use Rattle.cml_hub.proofs.law.one_schedule_one_run.Goals as goal

pub returns : goal.returns
returns c = one_schedule_one_run
