use Rattle.std.proofs.Common.{◌≡◌, take}
use Rattle.cml_scan.specs.Views.{lists_of}
use Rattle.cml_verify.proofs.read.ports.Given as goal

abbrev pub invariant-loop-p : goal.invariant-loop-p
invariant-loop-p l = lists_of l.queues.items ≡ take l.p l.book.ports
