use Rattle.std.proofs.Common.{◌≡◌, map, take}
use Rattle.cml_scan.specs.Views.{thread_of}
use Rattle.cml_verify.proofs.read.threads.Given as goal

abbrev pub invariant-loop-t : goal.invariant-loop-t
invariant-loop-t l = map thread_of l.states.items ≡ take l.t l.book.threads
