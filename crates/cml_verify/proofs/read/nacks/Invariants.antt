use Rattle.std.proofs.Common.{◌≡◌, map, take}
use Rattle.cml_scan.specs.Views.{nack_of}
use Rattle.cml_verify.proofs.read.nacks.Given as goal

abbrev pub invariant-loop-k : goal.invariant-loop-k
invariant-loop-k l = map nack_of l.states.items ≡ take l.k l.book.nacks
