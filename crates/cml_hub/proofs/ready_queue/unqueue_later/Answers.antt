use Rattle.std.proofs.Common.{arith, ap, ◌<◌, length}
use Rattle.std.specs.VecDeque.{deque_len}
use Rattle.cml_hub.proofs.MarkLemmas.{unqueued, passed_by}
use Rattle.cml_hub.proofs.Queueing.{unqueued_left}
use Rattle.cml_hub.proofs.ready_queue.unqueue_later.Goals as goal

pub returns-then-eq-clause-others : goal.returns-then-eq-clause-others
returns-then-eq-clause-others c t =
    let len = ap (λ q. deque_len q) c.loop-i.invariant.same in
    let lt : c.loop-i.i < length c.loop-i.queue.items = omega (arith, len) in
    unqueued t c.args.queue.now.items c.loop-i.queue.items c.remove-gone.new.self.items c.loop-i.i c.index.result.now c.args.thread c.remove-gone.result c.eq.result
    c.remove-gone.ensures.items (c.remove-gone.ensures.variant.1 (omega (arith, len))) (ap (λ q. q.items) c.loop-i.invariant.same) lt c.index.ensures c.eq.ensures c.if-eq.true

pub loop-i-preserved : goal.loop-i-preserved
loop-i-preserved c =
    let len = ap (λ q. deque_len q) c.loop-i.invariant.same in
    record {
      same = c.loop-i.invariant.same;
      passed = passed_by c.args.thread c.loop-i.queue.items c.loop-i.i c.index.result.now c.eq.result (omega (arith, len)) c.index.ensures c.eq.ensures c.if-eq.false c.loop-i.invariant.passed;
    }

pub returns-then-eq-clause-left : goal.returns-then-eq-clause-left
returns-then-eq-clause-left c =
    let len = ap (λ q. deque_len q) c.loop-i.invariant.same in
    let lt : c.loop-i.i < length c.loop-i.queue.items = omega (arith, len) in
    unqueued_left c.args.thread c.args.queue.now.items c.loop-i.queue.items c.remove-gone.new.self.items c.loop-i.i c.index.result.now c.remove-gone.result c.eq.result
    c.remove-gone.ensures.items (c.remove-gone.ensures.variant.1 (omega (arith, len)))
    (ap (λ q. q.items) c.loop-i.invariant.same) lt c.index.ensures c.eq.ensures c.if-eq.true
    c.loop-i.invariant.passed
