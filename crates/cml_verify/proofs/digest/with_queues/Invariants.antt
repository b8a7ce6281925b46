use Rattle.std.proofs.Common.{◌≡◌, drop}
use Rattle.std.specs.Prelude.{fold}
use Rattle.cml_verify.specs.Digests.{queue_mixed}
use Rattle.cml_verify.proofs.digest.with_queues.Given as goal

abbrev pub invariant-loop-queue : goal.invariant-loop-queue
invariant-loop-queue l = fold (λ d q. queue_mixed d q.items) l.all (drop l.queue-index l.queues) ≡ fold (λ d q. queue_mixed d q.items) l.fn.digest l.queues
