use Rattle.std.proofs.Common.{◌≡◌, take}
use Rattle.cml_verify.proofs.read.mvars.Given as goal

abbrev pub invariant-loop-m : goal.invariant-loop-m
invariant-loop-m l = l.values.items ≡ take l.m l.book.mvars
