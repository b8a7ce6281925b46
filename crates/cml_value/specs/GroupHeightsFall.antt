-- No part of a group stands as high as the whole.
use Rattle.std.specs.Prelude.{◌+◌, ◌≤◌, max, List, [], ◌∷◌}
use Rattle.std.proofs.Common.{arith}
use denote.Param.Weighed.{most}
use Rattle.cml_value.specs.Group.{PlainGroup, groups}
use Rattle.cml_value.specs.GroupHeights.{group_height, groups_height}
use Rattle.cml_value.specs.GroupViews.{plain_group}
use Rattle.cml_value.specs.declared.group.GroupKind.{GroupKind}
use Rattle.cml_value.specs.declared.group.GroupKind.TheVariants as group_kind
use Rattle.cml_value.specs.declared.group.Group.TheDeep.{deep-GroupKind}

pub most-groups_height : (gs : List PlainGroup) → most (λ g. group_height g + 1) gs ≤ groups_height (groups gs)
most-groups_height [] = omega arith
most-groups_height (g ∷ gs) = omega (arith, most-groups_height gs)

pub deep_le-group_height : (k : GroupKind) → max (deep-GroupKind k) 0 ≤ group_height (plain_group k)
deep_le-group_height (group_kind.Choose gs) = omega (arith, most-groups_height gs.value.items)
deep_le-group_height _ = omega arith
