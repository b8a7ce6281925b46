use Rattle.std.proofs.Common.{◌≡◌, take}
use Rattle.cml_scan.specs.Views.{lists_of}
use Rattle.cml_verify.proofs.read.mailboxes.Given as goal

abbrev pub invariant-loop-b : goal.invariant-loop-b
invariant-loop-b l = lists_of l.queues.items ≡ take l.b l.book.mailboxes
