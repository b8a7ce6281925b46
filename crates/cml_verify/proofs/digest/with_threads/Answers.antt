use Rattle.std.proofs.Common.{ℕ, arith}
use Rattle.std.specs.Prelude.{fold}
use Rattle.cml_scan.specs.Views.{thread_of}
use Rattle.cml_scan.specs.declared.world.ThreadState.{ThreadState}
use Rattle.cml_verify.specs.Digests.{thread_mixed}
use Rattle.cml_verify.proofs.Digesting.{fold_next, fold_done}
use Rattle.cml_verify.proofs.digest.with_threads.Goals as goal

pub loop-thread-preserved : goal.loop-thread-preserved
loop-thread-preserved c =
    let xs = c.args.threads.now in
    let at = c.loop-thread.thread-index in
    let before = c.loop-thread.all in
    let more = λ (d : ℕ) (t : ThreadState). thread_mixed d (thread_of t) in
    fold_next more xs at c.thread-item.result before c.with_thread-all.result (fold more c.args.digest xs) (omega arith) c.thread-item.is
    c.with_thread-all.ensures c.loop-thread.invariant

pub returns : goal.returns
returns c =
    let xs = c.args.threads.now in
    let more = λ (d : ℕ) (t : ThreadState). thread_mixed d (thread_of t) in
    fold_done more xs c.loop-thread.thread-index c.loop-thread.all (fold more c.args.digest xs) (omega arith) c.loop-thread.invariant
