use Rattle.std.proofs.Common.{arith}
use Rattle.std.specs.VecDeque.{deque_len}
use Rattle.cml_hub.proofs.MarkLemmas.{empty, not_empty, none_queued, first_gone}
use Rattle.cml_hub.proofs.Queueing.{first_left}
use Rattle.cml_hub.proofs.ready_queue.unqueue.Goals as goal

pub unreachable-requires : goal.unreachable-requires
unreachable-requires c =
    let none = empty (deque_len c.args.queue.now) c.is_empty.result c.is_empty.ensures c.if-is_empty.true in
    none_queued c.args.thread.0 c.args.queue.now.items (omega arith) c.requires

pub returns-then-eq-clause-left : goal.returns-then-eq-clause-left
returns-then-eq-clause-left c =
    let some = not_empty (deque_len c.args.queue.now) c.is_empty.result c.is_empty.ensures c.if-is_empty.false in
    first_left c.args.thread c.args.queue.now.items c.pop_front-gone.new.self.items c.index.result.now c.eq.result
    c.pop_front-gone.ensures.rest (omega arith) c.index.ensures c.eq.ensures c.if-eq.true

pub returns-then-eq-clause-others : goal.returns-then-eq-clause-others
returns-then-eq-clause-others c t =
    let some = not_empty (deque_len c.args.queue.now) c.is_empty.result c.is_empty.ensures c.if-is_empty.false in
    first_gone t c.args.queue.now.items c.pop_front-gone.new.self.items c.index.result.now c.args.thread c.eq.result
    c.pop_front-gone.ensures.rest (omega arith) c.index.ensures c.eq.ensures c.if-eq.true
