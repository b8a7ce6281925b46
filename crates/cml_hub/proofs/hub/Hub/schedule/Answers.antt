use Rattle.cml_hub.proofs.Placing.{out_runs}
use Rattle.cml_hub.proofs.hub.Hub.schedule.Goals as goal

pub returns-clause-out : goal.returns-clause-out
returns-clause-out c =
    let s = c.self.inside in
    rw (← c.self.view_is) (out_runs s.course.world.threads s.marks.marks c.self.invariant.placed)
