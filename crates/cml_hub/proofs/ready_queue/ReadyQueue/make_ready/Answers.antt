use Rattle.cml_hub.proofs.MarkLemmas.{marks_ready}
use Rattle.cml_hub.proofs.ready_queue.ReadyQueue.make_ready.Goals as goal

pub invariant_of-self : goal.invariant_of-self
invariant_of-self c =
    let s = c.self.inside in
    rw (c.push_back_reserved.ensures.items)
    (marks_ready s.queue.items s.marks.items s.outs c.args.thread c.self.invariant (rw (← c.self.view_is) at c.requires.away))
