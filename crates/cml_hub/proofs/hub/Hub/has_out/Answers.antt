use Rattle.cml_hub.proofs.Waiting.{out_known}
use Rattle.cml_hub.proofs.hub.Hub.has_out.Goals as goal

pub returns : goal.returns
returns c =
    let s = c.self.inside in
    rw (← c.self.view_is) (out_known s.marks.marks c.has_out.result c.has_out.ensures)
