use Rattle.std.proofs.Common.{◌≡◌, take}
use Rattle.cml_hub.specs.ReadyQueue.{count_of}
use Rattle.cml_hub.proofs.ready_queue.unqueue_later.Given as goal

abbrev pub invariant-loop-i : goal.invariant-loop-i
invariant-loop-i l = record {
  same : l.queue ≡ l.fn.queue;
  passed : count_of l.thread.0 (take l.i l.queue.items) ≡ 0;
}
