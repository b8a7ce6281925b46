use Rattle.std.proofs.Common.{arith, ◌∙◌}
use Rattle.std.specs.VecDeque.{deque_len}
use Rattle.cml_hub.proofs.MarkLemmas.{idle_empty, idle_filled, empty, not_empty}
use Rattle.cml_hub.proofs.ready_queue.ReadyQueue.is_idle.Goals as goal

pub returns-then-is_empty : goal.returns-then-is_empty
returns-then-is_empty c =
    let s = c.self.inside in
    let none = empty (deque_len s.queue) c.is_empty.result c.is_empty.ensures c.if-is_empty.true in
    rw (← c.self.view_is) (idle_empty s.queue.items s.marks.items s.outs c.self.invariant (omega arith))

pub returns-else-is_empty : goal.returns-else-is_empty
returns-else-is_empty c =
    let s = c.self.inside in
    let some = not_empty (deque_len s.queue) c.is_empty.result c.is_empty.ensures c.if-is_empty.false in
    rw (← c.self.view_is) (c.if-is_empty.false ∙ idle_filled s.queue.items s.marks.items s.outs c.self.invariant (omega arith))
