-- How high a group stands above its deepest part in memory, which shows that a walk through it ends. No rule uses it.
use Rattle.std.specs.Prelude.{ℕ, ◌+◌, max}
use Rattle.cml_value.specs.Group.{PlainGroup, choose, wrap, scope, PlainGroups, no_groups, groups_and}

abbrev mutual
  pub group_height : PlainGroup → ℕ
  group_height (choose gs) = groups_height gs
  group_height (wrap g f) = group_height g + 1
  group_height (scope k g) = group_height g + 1
  group_height _ = 0

  pub groups_height : PlainGroups → ℕ
  groups_height no_groups = 0
  groups_height (groups_and g gs) = max (group_height g + 1) (groups_height gs)
