use Rattle.std.proofs.Common.{◌-◌, ◌+◌, length}
use Rattle.cml_index.specs.Told.{AreReserved}
use Rattle.cml_index.proofs.told.reserve_in.Given as goal

-- what was told stays
abbrev pub invariant-loop-list : goal.invariant-loop-list
invariant-loop-list l = AreReserved l.fn.list.items l.list.items

abbrev pub decreases-loop-list : goal.decreases-loop-list
decreases-loop-list l = l.number + 1 - length l.list.items
