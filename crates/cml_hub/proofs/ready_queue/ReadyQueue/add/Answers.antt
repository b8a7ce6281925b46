use Rattle.std.proofs.Common.{arith, ◌<◌, ◌^◌}
use Rattle.cml_hub.proofs.MarkLemmas.{marks_add}
use Rattle.cml_hub.proofs.ready_queue.ReadyQueue.add.Goals as goal

pub invariant_of-self : goal.invariant_of-self
invariant_of-self c =
    let s = c.self.inside in
    let few : c.args.thread.0 < 2 ^ 32 = omega arith in
    rw (c.push_back_reserved.ensures.items, c.push_reserved.ensures.items)
    (marks_add s.queue.items s.marks.items s.outs c.args.thread c.self.invariant (rw (← c.self.view_is) at c.requires.next) few)
