use Rattle.std.proofs.Common.{◌≡◌, length}
use Rattle.cml_picture.proofs.layout.frame.columns_of.Given as goal

abbrev pub invariant-loop-mark : goal.invariant-loop-mark
invariant-loop-mark l = length l.columns.items ≡ l.threads
