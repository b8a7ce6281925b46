use Rattle.cml_hub.proofs.Waiting.{counted_any}
use Rattle.cml_hub.proofs.ready_queue.ReadyQueue.has_out.Goals as goal

pub returns : goal.returns
returns c =
    let s = c.self.inside in
    rw (← c.self.view_is) (counted_any s.marks.items s.outs c.self.invariant.counted)
