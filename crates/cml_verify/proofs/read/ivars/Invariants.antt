use Rattle.std.proofs.Common.{◌≡◌, take}
use Rattle.cml_verify.proofs.read.ivars.Given as goal

abbrev pub invariant-loop-i : goal.invariant-loop-i
invariant-loop-i l = l.values.items ≡ take l.i l.book.ivars
