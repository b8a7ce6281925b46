-- How a group enters: an event after some ticks becomes an event at a tick, counted from now.
use Rattle.std.specs.Prelude.{ℕ, ◌+◌, ◌^◌, Bool, false, nat_lt}
use Rattle.cml_value.specs.Value.{PlainBase, at_tick, after_ticks}
use Rattle.cml_value.specs.Group.{PlainGroup, never, leaf, choose, wrap, scope, PlainGroups, no_groups, groups_and}

-- the base event as it enters at this tick (Reppy's timeOutEvt counts from the moment of the synchronization)
abbrev pub entered_base : ℕ → PlainBase → PlainBase
entered_base tick (after_ticks d) = at_tick (tick + d)
entered_base tick b = b

abbrev mutual
  -- the group as it enters at this tick: each of its leaves enters in this way
  pub entered : ℕ → PlainGroup → PlainGroup
  entered tick never = never
  entered tick (leaf b) = leaf (entered_base tick b)
  entered tick (choose gs) = choose (entered_all tick gs)
  entered tick (wrap g f) = wrap (entered tick g) f
  entered tick (scope k g) = scope k (entered tick g)

  pub entered_all : ℕ → PlainGroups → PlainGroups
  entered_all tick no_groups = no_groups
  entered_all tick (groups_and g gs) = groups_and (entered tick g) (entered_all tick gs)

-- the greatest tick
abbrev pub max_tick : ℕ
max_tick = 2 ^ 62

-- the base event waits for a tick above the greatest
abbrev pub is_far : ℕ → PlainBase → Bool
is_far tick (at_tick t) = nat_lt max_tick t
is_far tick (after_ticks d) = nat_lt max_tick (tick + d)
is_far tick _ = false
