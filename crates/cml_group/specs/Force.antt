-- What forcing an event means: tree rewriting. While a guard or a withNack is left in the event, the leftmost of the outermost
-- ones is replaced by the event that its function returns, which for a withNack stands in a scope with a fresh nack (Reppy's
-- guard and withNack; the order is this runtime's).
use Rattle.std.specs.Prelude.{◌≡◌, ℕ, Option, Some, None}
use Rattle.cml_value.specs.Value.{PlainValue, event, PlainValues, no_values, values_and, PlainFunction, function, nack}
use Rattle.cml_value.specs.Value.{PlainEvent, never, leaf, choose, wrap, guard, with_nack, scope, PlainEvents, no_events, events_and}
use Rattle.cml_value.specs.Group.{PlainGroup, PlainGroups, no_groups, groups_and}
use Rattle.cml_value.specs.Group.{never as never_group, leaf as leaf_group, choose as choose_group, wrap as wrap_group, scope as scope_group}

-- what forcing waits for: the event that a guard's function returns, or a fresh nack for a withNack's function
pub data PlainNeed : Type 0 where
  calls : PlainFunction → PlainNeed
  needs_nack : PlainFunction → PlainNeed

-- the first of the two that is there
abbrev pub or_else : Option PlainNeed → Option PlainNeed → Option PlainNeed
or_else (Some a) b = Some a
or_else None b = b

abbrev mutual
  -- the leftmost of the outermost guards and withNacks, none where all is forced; an event among captured values or in a
  -- base event's value is a value there, and is not forced
  pub unforced : PlainEvent → Option PlainNeed
  unforced never = None
  unforced (leaf b) = None
  unforced (choose es) = unforced_of_all es
  unforced (wrap e f) = unforced e
  unforced (guard f) = Some (calls f)
  unforced (with_nack f) = Some (needs_nack f)
  unforced (scope k e) = unforced e

  pub unforced_of_all : PlainEvents → Option PlainNeed
  unforced_of_all no_events = None
  unforced_of_all (events_and e es) = or_else (unforced e) (unforced_of_all es)

-- the first where something is found, the second where nothing is
abbrev pub where_found : {A : Type 0} → Option PlainNeed → A → A → A
where_found (Some a) x y = x
where_found None x y = y

abbrev mutual
  -- the event with `new` in the place of that guard or withNack, and all else as it is
  pub replaced : PlainEvent → PlainEvent → PlainEvent
  replaced new never = never
  replaced new (leaf b) = leaf b
  replaced new (choose es) = choose (replaced_in_all new es)
  replaced new (wrap e f) = wrap (replaced new e) f
  replaced new (guard f) = new
  replaced new (with_nack f) = new
  replaced new (scope k e) = scope k (replaced new e)

  pub replaced_in_all : PlainEvent → PlainEvents → PlainEvents
  replaced_in_all new no_events = no_events
  replaced_in_all new (events_and e es) = where_found (unforced e) (events_and (replaced new e) es) (events_and e (replaced_in_all new es))

-- the values and one more, last
abbrev pub with_last : PlainValue → PlainValues → PlainValues
with_last v no_values = values_and v no_values
with_last v (values_and w ws) = values_and w (with_last v ws)

-- a withNack's function, given the event of the nack of this number as its last argument
abbrev pub given_nack : ℕ → PlainFunction → PlainFunction
given_nack k (function f vs) = function f (with_last (event (leaf (nack k))) vs)

abbrev mutual
  -- a forced event, as an event
  pub event_of : PlainGroup → PlainEvent
  event_of never_group = never
  event_of (leaf_group b) = leaf b
  event_of (choose_group gs) = choose (events_of gs)
  event_of (wrap_group g f) = wrap (event_of g) f
  event_of (scope_group k g) = scope k (event_of g)

  pub events_of : PlainGroups → PlainEvents
  events_of no_groups = no_events
  events_of (groups_and g gs) = events_and (event_of g) (events_of gs)

-- forcing waits for an event, or for a nack
abbrev pub AwaitsEvent : PlainEvent → Type 0
AwaitsEvent e = (f : PlainFunction) × (unforced e ≡ Some (calls f))

abbrev pub AwaitsNack : PlainEvent → Type 0
AwaitsNack e = (f : PlainFunction) × (unforced e ≡ Some (needs_nack f))
