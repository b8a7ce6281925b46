use Rattle.std.proofs.Common.{◌≡◌, ◌+◌, drop}
use Rattle.cml_value.specs.Group.{groups, groups_depth, groups_nodes}
use Rattle.cml_value.specs.Limits.{is_within}
use Rattle.cml_group.proofs.force.done.spend_all.Given as goal

-- what was spent is what the groups so far have, and whether it is enough for all rests on the rest
abbrev pub invariant-loop-group : goal.invariant-loop-group
invariant-loop-group l =
    (l.budget + groups_nodes (groups (drop l.group-index l.members)) ≡ l.left + groups_nodes (groups l.members))
    × (is_within l.depth l.left (groups_depth (groups (drop l.group-index l.members))) (groups_nodes (groups (drop l.group-index l.members)))
    ≡ is_within l.depth l.budget (groups_depth (groups l.members)) (groups_nodes (groups l.members)))
