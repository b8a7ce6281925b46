use Rattle.std.proofs.Common.{◌≡◌, take}
use Rattle.cml_scan.specs.Views.{port_lists_of}
use Rattle.cml_verify.proofs.read.mchans.Given as goal

abbrev pub invariant-loop-x : goal.invariant-loop-x
invariant-loop-x l = port_lists_of l.channels.items ≡ take l.x l.book.mchans
