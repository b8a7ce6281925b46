use Rattle.std.proofs.Common.{arith}
use Rattle.cml_stepper.proofs.PickLemmas.{ready_more}
use Rattle.cml_stepper.proofs.ready.ready_threads.Goals as goal

pub loop-t-preserved : goal.loop-t-preserved
loop-t-preserved c =
    ready_more c.args.book.now.threads c.loop-t.t c.is_running.result c.loop-t.ready.items c.push_if.new.ready.items _ (omega arith) c.is_running.ensures c.in_ok-push_if.ensures c.loop-t.invariant
