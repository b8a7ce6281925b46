use Rattle.std.proofs.Common.{◌≡◌, take}
use Rattle.cml_check.proofs.syntax.+copy_expr.Given as goal

abbrev pub invariant-Exprs::copy-loop-e : goal.invariant-Exprs::copy-loop-e
invariant-Exprs::copy-loop-e l = l.items.items ≡ take l.e-index l.e-items
