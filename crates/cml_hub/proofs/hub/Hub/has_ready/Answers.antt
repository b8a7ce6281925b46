use Rattle.cml_hub.proofs.Waiting.{ready_known}
use Rattle.cml_hub.proofs.hub.Hub.has_ready.Goals as goal

pub returns : goal.returns
returns c =
    let s = c.self.inside in
    rw (← c.self.view_is) (ready_known s.marks.queue c.front.result c.is_some.result c.front.ensures.first c.is_some.ensures)
