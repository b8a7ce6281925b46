use Rattle.std.proofs.Common.{arith}
use Rattle.std.specs.VecDeque.{deque_len}
use Rattle.cml_hub.proofs.MarkLemmas.{none_ready, front_ready, first_is, none_first, empty, not_empty}
use Rattle.cml_hub.proofs.ready_queue.ReadyQueue.front.Goals as goal

pub returns-then-is_empty-clause-ready : goal.returns-then-is_empty-clause-ready
returns-then-is_empty-clause-ready c t r =
    let s = c.self.inside in
    let none = empty (deque_len s.queue) c.is_empty.result c.is_empty.ensures c.if-is_empty.true in
    none_ready s.queue.items s.marks.items s.outs t c.self.invariant (omega arith) (rw (← c.self.view_is) at r)

pub returns-clause-ready : goal.returns-clause-ready
returns-clause-ready c =
    let s = c.self.inside in
    let some = not_empty (deque_len s.queue) c.is_empty.result c.is_empty.ensures c.if-is_empty.false in
    rw (← c.self.view_is) (front_ready s.queue.items s.marks.items s.outs c.index.result.now c.self.invariant (omega arith) c.index.ensures)

pub returns-then-is_empty-clause-first : goal.returns-then-is_empty-clause-first
returns-then-is_empty-clause-first c =
    let s = c.self.inside in
    let none = empty (deque_len s.queue) c.is_empty.result c.is_empty.ensures c.if-is_empty.true in
    rw (← c.self.view_is) (none_first s.queue.items (omega arith))

pub returns-clause-first : goal.returns-clause-first
returns-clause-first c =
    let s = c.self.inside in
    let some = not_empty (deque_len s.queue) c.is_empty.result c.is_empty.ensures c.if-is_empty.false in
    rw (← c.self.view_is) (first_is s.queue.items c.index.result.now (omega arith) c.index.ensures)
