use Rattle.std.proofs.Common.{◌≡◌, ◌+◌, ◌≤◌, max, drop}
use Rattle.cml_value.specs.Group.{groups, groups_depth, groups_nodes}
use Rattle.cml_value.specs.Sizes.{kept}
use Rattle.cml_value.proofs.group.sizes.groups_size.Given as goal

-- what those so far and those of the rest keep is what all keep
abbrev pub invariant-loop-g : goal.invariant-loop-g
invariant-loop-g l =
    (kept (max l.size.depth (groups_depth (groups (drop l.g-index l.all)))) ≡ kept (groups_depth (groups l.all)))
    × (kept (l.size.nodes + groups_nodes (groups (drop l.g-index l.all))) ≡ kept (groups_nodes (groups l.all)))
    × (l.size.depth ≤ 18446744073709551615)
    × (l.size.nodes ≤ 18446744073709551615)
