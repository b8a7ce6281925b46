use Rattle.std.proofs.Common.{◌≡◌, ◌≤◌, length, map, take}
use Rattle.std.specs.Vec.{vec_capacity}
use Rattle.cml_value.specs.GroupHeights.{group_height}
use Rattle.cml_book.specs.Entering.{entered}
use Rattle.cml_book.proofs.entering.+entering.Given as goal

abbrev pub decreases-entering : goal.decreases-entering
decreases-entering l = group_height l.group.now

-- the members so far have entered, and there is room for all
abbrev pub invariant-loop-g : goal.invariant-loop-g
invariant-loop-g l = (l.members.items ≡ map (entered l.tick) (take l.g-index l.g-items)) × (length l.g-items ≤ vec_capacity l.members)
