use Rattle.cml_step.specs.Calls.{text_of}
use Rattle.cml_hub.specs.Courses.{run_of}
use Rattle.cml_facts.proofs.FailureLemmas.{fails_by_none}
use Rattle.cml_facts.proofs.fault.failed.failed_by_none.Goals as goal

pub returns-clause-failed : goal.returns-clause-failed
returns-clause-failed c =
    let h = c.args.hub.now.course in
    fails_by_none (text_of h.program) h.items c.args.item (run_of h) c.schedule-so_far.ensures.leads c.requires.none
