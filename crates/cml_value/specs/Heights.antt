-- How high a value stands above its deepest part in memory, which shows that a walk through it ends. No rule uses it.
use Rattle.std.specs.Prelude.{ℕ, ◌+◌, max}
use Rattle.cml_value.specs.Value.{PlainValue, pair, event, PlainValues, no_values, values_and, PlainFunction, function}
use Rattle.cml_value.specs.Value.{PlainBase, always, send, swap, mswap, PlainEvent, never, leaf, choose, wrap, guard, with_nack, scope, PlainEvents, no_events, events_and}

abbrev mutual
  pub value_height : PlainValue → ℕ
  value_height (pair a b) = max (value_height a + 1) (value_height b + 1) + 1
  value_height (event e) = event_height e + 1
  value_height _ = 0

  pub values_height : PlainValues → ℕ
  values_height no_values = 0
  values_height (values_and v vs) = max (value_height v + 1) (values_height vs)

  pub function_height : PlainFunction → ℕ
  function_height (function f vs) = values_height vs

  pub base_height : PlainBase → ℕ
  base_height (always v) = value_height v + 1
  base_height (send c v) = value_height v + 1
  base_height (swap s v) = value_height v + 1
  base_height (mswap m v) = value_height v + 1
  base_height _ = 0

  pub event_height : PlainEvent → ℕ
  event_height never = 0
  event_height (leaf b) = base_height b + 1
  event_height (choose es) = events_height es
  event_height (wrap e f) = max (event_height e + 1) (function_height f + 1)
  event_height (guard f) = function_height f + 1
  event_height (with_nack f) = function_height f + 1
  event_height (scope k e) = event_height e + 1

  pub events_height : PlainEvents → ℕ
  events_height no_events = 0
  events_height (events_and e es) = max (event_height e + 1) (events_height es)
