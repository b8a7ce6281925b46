-- An event whose guards and withNacks have all been called, as the group that a thread synchronizes on.
use Rattle.cml_value.specs.Value.{PlainValue, PlainFunction, function}
use Rattle.cml_value.specs.Value.{PlainEvent, never, leaf, choose, wrap, guard, with_nack, scope, PlainEvents, no_events, events_and}
use Rattle.cml_value.specs.Group.{PlainGroup, PlainGroups, no_groups, groups_and}
use Rattle.cml_value.specs.Group as group
use Rattle.cml_group.specs.Force.{with_last}

-- the group, form by form; a guard or a withNack, of which none is left, stands for no leaf
abbrev mutual
  pub group_of : PlainEvent → PlainGroup
  group_of never = group.never
  group_of (leaf b) = group.leaf b
  group_of (choose es) = group.choose (groups_of es)
  group_of (wrap e f) = group.wrap (group_of e) f
  group_of (guard f) = group.never
  group_of (with_nack f) = group.never
  group_of (scope k e) = group.scope k (group_of e)

  pub groups_of : PlainEvents → PlainGroups
  groups_of no_events = no_groups
  groups_of (events_and e es) = groups_and (group_of e) (groups_of es)

-- a function with one more argument, the last
abbrev pub with_argument : PlainFunction → PlainValue → PlainFunction
with_argument (function f vs) v = function f (with_last v vs)
