-- What a flat group keeps: the group, its leaves and its scopes.
use Rattle.std.specs.Prelude.{◌≡◌, ◌≤◌, ℕ, Bool, ◌&&◌, List, length, true, false}
use Rattle.cml_value.specs.Value.{PlainBase, always, send, swap, mswap}
use Rattle.cml_value.specs.Group.{PlainGroup, leaf, choose, PlainGroups, no_groups, groups_and, PlainLeaf, PlainScope, leaves, leaf_count, scopes, nacks_of, group_fits}
use Rattle.cml_group.specs.Leaves.{numbers}
use Rattle.cml_value.specs.declared.number.NackId.{NackId}

-- the most leaves of a group that a thread can offer (Concurrent ML has no such limit)
abbrev pub max_leaves : ℕ
max_leaves = 256

-- the most choices that are kept to be found again
abbrev pub most_kept : ℕ
most_kept = 8

-- at most this many leaves, and within the limits of depth and of nodes
pub record IsWithinLimits (g : PlainGroup) : Type 0 where
  pub few_leaves : leaf_count g ≤ max_leaves
  pub fits : group_fits g ≡ true

-- a base event that carries no value
abbrev pub is_bare : PlainBase → Bool
is_bare (always v) = false
is_bare (send c v) = false
is_bare (swap s v) = false
is_bare (mswap m v) = false
is_bare b = true

-- the group is such a base event
abbrev pub is_bare_leaf : PlainGroup → Bool
is_bare_leaf (leaf b) = is_bare b
is_bare_leaf g = false

-- each of the groups is one
abbrev pub are_bare_leaves : PlainGroups → Bool
are_bare_leaves no_groups = true
are_bare_leaves (groups_and g gs) = is_bare_leaf g && are_bare_leaves gs

-- the group is flat as it stands: a base event, or a choice among base events that carry no value
abbrev pub is_flat : PlainGroup → Bool
is_flat (leaf b) = true
is_flat (choose gs) = are_bare_leaves gs
is_flat g = false

-- a choice among base events that carry no value
abbrev pub is_bare_choice : PlainGroup → Bool
is_bare_choice (choose gs) = are_bare_leaves gs
is_bare_choice g = false

-- these are the leaves, the scopes and the nacks of the group, and the list of nacks has room for all of them
pub record IsLaidOut (g : PlainGroup) (ls : List PlainLeaf) (ss : List PlainScope) (ks : List NackId) (room : ℕ) : Type 0 where
  pub leaves_are : ls ≡ leaves g
  pub scopes_are : ss ≡ scopes g
  pub nacks_are : numbers ks ≡ nacks_of (scopes g)
  pub has_room : length ss ≤ room
