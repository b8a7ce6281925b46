use Rattle.std.proofs.Common.{◌≡◌, ◌++◌, drop}
use Rattle.cml_stepper.specs.Questions.{running_from}
use Rattle.cml_stepper.proofs.ready.ready_threads.Given as goal

abbrev pub invariant-loop-t : goal.invariant-loop-t
invariant-loop-t l = l.ready.items ++ running_from l.t (drop l.t l.book.threads) ≡ running_from 0 l.book.threads
