use Rattle.std.proofs.Common.{◌≡◌, replicate}
use Rattle.cml_objects.proofs.delivery.copies.Given as goal

abbrev pub invariant-loop-i : goal.invariant-loop-i
invariant-loop-i l = l.list.items ≡ replicate l.i l.message
