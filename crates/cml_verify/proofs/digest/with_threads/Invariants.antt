use Rattle.std.proofs.Common.{◌≡◌, drop}
use Rattle.std.specs.Prelude.{fold}
use Rattle.cml_scan.specs.Views.{thread_of}
use Rattle.cml_verify.specs.Digests.{thread_mixed}
use Rattle.cml_verify.proofs.digest.with_threads.Given as goal

abbrev pub invariant-loop-thread : goal.invariant-loop-thread
invariant-loop-thread l = fold (λ d t. thread_mixed d (thread_of t)) l.all (drop l.thread-index l.threads) ≡ fold (λ d t. thread_mixed d (thread_of t)) l.fn.digest l.threads
