use Rattle.std.proofs.Common.{◌≡◌, ◌++◌, length, drop}
use Rattle.cml_value.specs.Group.{groups, leaves_of_all, scopes_from_all}
use Rattle.cml_value.specs.GroupHeights.{group_height}
use Rattle.cml_group.proofs.lay.+lay.Given as goal

abbrev pub decreases-lay : goal.decreases-lay
decreases-lay l = group_height l.group.now

-- what has been added and what the rest adds is what all add
abbrev pub invariant-loop-g : goal.invariant-loop-g
invariant-loop-g l =
    let rest = groups (drop l.g-index l.g-items) in
    (l.leaves.items ++ leaves_of_all rest ≡ l.initial.leaves.items ++ leaves_of_all (groups l.g-items))
    × (l.branches.items ++ scopes_from_all (length l.leaves.items) rest ≡ l.initial.branches.items ++ scopes_from_all (length l.initial.leaves.items) (groups l.g-items))
