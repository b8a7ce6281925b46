use Rattle.std.proofs.Common.{◌≤◌}
use Rattle.cml_picture.proofs.layout.frame.margin_of.Given as goal

abbrev pub invariant-loop-mark : goal.invariant-loop-mark
invariant-loop-mark l = l.margin ≤ 716
