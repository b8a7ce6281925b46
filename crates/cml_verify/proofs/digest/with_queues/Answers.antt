use Rattle.std.proofs.Common.{ℕ, arith}
use Rattle.std.specs.Prelude.{fold, Vec}
use Rattle.std.specs.declared.alloc.Global.{Global}
use Rattle.cml_value.specs.Value.{PlainValue}
use Rattle.cml_verify.specs.Digests.{queue_mixed}
use Rattle.cml_verify.proofs.Digesting.{fold_next, fold_done}
use Rattle.cml_verify.proofs.digest.with_queues.Goals as goal

pub loop-queue-preserved : goal.loop-queue-preserved
loop-queue-preserved c =
    let xs = c.args.queues.now in
    let at = c.loop-queue.queue-index in
    let before = c.loop-queue.all in
    let more = λ (d : ℕ) (q : Vec PlainValue Global). queue_mixed d q.items in
    fold_next more xs at c.queue-item.result before c.with_queue-all.result (fold more c.args.digest xs) (omega arith) c.queue-item.is
    c.with_queue-all.ensures c.loop-queue.invariant

pub returns : goal.returns
returns c =
    let xs = c.args.queues.now in
    let more = λ (d : ℕ) (q : Vec PlainValue Global). queue_mixed d q.items in
    fold_done more xs c.loop-queue.queue-index c.loop-queue.all (fold more c.args.digest xs) (omega arith) c.loop-queue.invariant
