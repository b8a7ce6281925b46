use Rattle.cml_facts.specs.FallViews.{plain_fall}
use Rattle.cml_facts.specs.FaultViews.{plain_sources}
use Rattle.cml_facts.proofs.FaultLemmas.{known_by_fall}
use Rattle.cml_facts.proofs.fault.fact.next_fault.Goals as goal

pub returns : goal.returns
returns c =
    known_by_fall c.fault_of.result (plain_sources c.args.sources.now) c.args.sources.now.hub.now.course.program c.program.result.now c.args.machine.now (plain_fall c.in_ok-fall.fall)
    c.program.ensures c.in_ok-fall.ensures c.fault_of.ensures
