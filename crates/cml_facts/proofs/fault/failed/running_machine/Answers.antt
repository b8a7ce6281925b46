use Rattle.cml_scan.specs.World.{running}
use Rattle.cml_hub.specs.Dones.{GoesOn}
use Rattle.cml_facts.proofs.FailedLemmas.{runs_there, copied_goes}
use Rattle.cml_facts.proofs.fault.failed.running_machine.Goals as goal

pub returns-clause-goes : goal.returns-clause-goes
returns-clause-goes c = copied_goes _ _ (GoesOn c.args.hub.now.course.program) (c.in-Some.ensures.stands running (runs_there _ c.requires)) c.copy.ensures
