-- How many leaves a group has, by its parts.
use Rattle.std.proofs.Common.{◌≡◌, ◌≤◌, ◌+◌, ◌++◌, length, map, length-append, arith}
use Rattle.std.proofs.lemmas.List.{length-map}
use Rattle.cml_value.specs.Value.{PlainFunction, PlainBase, always, send, recv, swap, iget, mtake, mget, mswap, mail_recv, port_recv, join, at_tick, after_ticks, nack}
use Rattle.cml_value.specs.Limits.{base_nodes}
use Rattle.cml_value.specs.Group.{PlainGroup, never, leaf, choose, wrap, scope, PlainGroups, no_groups, groups_and, leaves, leaves_of_all, leaf_count, wrapped_by, group_nodes, groups_nodes}

pub leaf_count-wrap : (g : PlainGroup) (f : PlainFunction) → length (map (wrapped_by f) (leaves g)) ≡ length (leaves g)
leaf_count-wrap g f = length-map (leaves g) (wrapped_by f)

pub leaf_count-append : (g : PlainGroup) (gs : PlainGroups) → length (leaves g ++ leaves_of_all gs) ≡ length (leaves g) + length (leaves_of_all gs)
leaf_count-append g gs = length-append (leaves g) (leaves_of_all gs)

pub ruleset counts = (leaf_count-wrap, leaf_count-append)

-- each leaf is a node, so a group has no more leaves than nodes
base_counts : (b : PlainBase) → 1 ≤ base_nodes b
base_counts (always v) = omega arith
base_counts (send c v) = omega arith
base_counts (recv c) = omega arith
base_counts (swap s v) = omega arith
base_counts (iget i) = omega arith
base_counts (mtake m) = omega arith
base_counts (mget m) = omega arith
base_counts (mswap m v) = omega arith
base_counts (mail_recv q) = omega arith
base_counts (port_recv q) = omega arith
base_counts (join t) = omega arith
base_counts (at_tick t) = omega arith
base_counts (after_ticks d) = omega arith
base_counts (nack k) = omega arith

mutual
  pub leaves_within : (g : PlainGroup) → leaf_count g ≤ group_nodes g
  leaves_within never = omega arith
  leaves_within (leaf b) = base_counts b
  leaves_within (choose gs) = omega (arith, leaves_within_all gs)
  leaves_within (wrap g f) = omega (arith, leaf_count-wrap g f, leaves_within g)
  leaves_within (scope k g) = omega (arith, leaves_within g)

  pub leaves_within_all : (gs : PlainGroups) → length (leaves_of_all gs) ≤ groups_nodes gs
  leaves_within_all no_groups = omega arith
  leaves_within_all (groups_and g gs) = omega (arith, leaf_count-append g gs, leaves_within g, leaves_within_all gs)

pub ruleset within = (leaves_within)
