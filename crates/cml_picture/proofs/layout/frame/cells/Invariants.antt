use Rattle.std.proofs.Common.{◌≤◌}
use Rattle.cml_picture.proofs.layout.frame.cells.Given as goal

abbrev pub invariant-loop-byte : goal.invariant-loop-byte
invariant-loop-byte l = l.count ≤ 100
