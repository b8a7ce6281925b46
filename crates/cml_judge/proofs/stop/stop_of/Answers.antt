use Rattle.cml_step.specs.Calls.{text_of}
use Rattle.cml_judge.proofs.StopLemmas.{stops_so}
use Rattle.cml_judge.proofs.stop.stop_of.Goals as goal

pub returns : goal.returns
returns c =
    let h = c.args.hub.now in
    stops_so c.stop_in-stops.result c.args.properties.now (text_of h.course.program) h.course.items c.in_ok-at.at c.in_ok-at.ensures c.stop_in-stops.ensures
