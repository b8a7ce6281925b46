use Rattle.cml_hub.proofs.Played.{begins_run}
use Rattle.cml_hub.proofs.law.a_hub_begins_the_run.Goals as goal

pub returns : goal.returns
returns g c h chooser = begins_run h chooser
