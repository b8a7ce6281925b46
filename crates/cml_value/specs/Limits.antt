-- How deep a value, a base event or an event nests, and of how many nodes it is made.
use Rattle.std.specs.Prelude.{ℕ, ◌+◌, max, Bool, nat_le, ◌&&◌}
use Rattle.cml_value.specs.Value.{PlainValue, pair, event, PlainValues, no_values, values_and, PlainFunction, function}
use Rattle.cml_value.specs.Value.{PlainBase, always, send, swap, mswap, PlainEvent, never, leaf, choose, wrap, guard, with_nack, scope, PlainEvents, no_events, events_and}

-- The size, where `join` makes one size of those of two parts: with `max` it is the depth, with `+` the number of nodes. It is 1 for what has
-- no parts, such as an empty choice, else one more than that of the parts. An event value counts as its event, a leaf as its base event, and
-- a function as the values that it has captured.
abbrev mutual
  pub value_size : (ℕ → ℕ → ℕ) → PlainValue → ℕ
  value_size join (pair a b) = join (value_size join a) (value_size join b) + 1
  value_size join (event e) = event_size join e
  value_size join _ = 1

  pub values_size : (ℕ → ℕ → ℕ) → PlainValues → ℕ
  values_size join no_values = 0
  values_size join (values_and v vs) = join (value_size join v) (values_size join vs)

  pub function_size : (ℕ → ℕ → ℕ) → PlainFunction → ℕ
  function_size join (function f vs) = values_size join vs

  pub base_size : (ℕ → ℕ → ℕ) → PlainBase → ℕ
  base_size join (always v) = value_size join v + 1
  base_size join (send c v) = value_size join v + 1
  base_size join (swap s v) = value_size join v + 1
  base_size join (mswap m v) = value_size join v + 1
  base_size join _ = 1

  pub event_size : (ℕ → ℕ → ℕ) → PlainEvent → ℕ
  event_size join never = 1
  event_size join (leaf b) = base_size join b
  event_size join (choose es) = events_size join es + 1
  event_size join (wrap e f) = join (event_size join e) (function_size join f) + 1
  event_size join (guard f) = function_size join f + 1
  event_size join (with_nack f) = function_size join f + 1
  event_size join (scope k e) = event_size join e + 1

  pub events_size : (ℕ → ℕ → ℕ) → PlainEvents → ℕ
  events_size join no_events = 0
  events_size join (events_and e es) = join (event_size join e) (events_size join es)

-- the depth: one more than that of the deepest part
abbrev pub value_depth : PlainValue → ℕ
value_depth x = value_size max x

abbrev pub values_depth : PlainValues → ℕ
values_depth x = values_size max x

abbrev pub function_depth : PlainFunction → ℕ
function_depth x = function_size max x

abbrev pub base_depth : PlainBase → ℕ
base_depth x = base_size max x

abbrev pub event_depth : PlainEvent → ℕ
event_depth x = event_size max x

abbrev pub events_depth : PlainEvents → ℕ
events_depth x = events_size max x

-- the number of nodes: one for each part that the size counts
abbrev pub value_nodes : PlainValue → ℕ
value_nodes x = value_size (λ a b. a + b) x

abbrev pub values_nodes : PlainValues → ℕ
values_nodes x = values_size (λ a b. a + b) x

abbrev pub function_nodes : PlainFunction → ℕ
function_nodes x = function_size (λ a b. a + b) x

abbrev pub base_nodes : PlainBase → ℕ
base_nodes x = base_size (λ a b. a + b) x

abbrev pub event_nodes : PlainEvent → ℕ
event_nodes x = event_size (λ a b. a + b) x

abbrev pub events_nodes : PlainEvents → ℕ
events_nodes x = events_size (λ a b. a + b) x

-- a depth and a number of nodes are within these limits
abbrev pub is_within : ℕ → ℕ → ℕ → ℕ → Bool
is_within depth_limit node_limit depth nodes = nat_le depth depth_limit && nat_le nodes node_limit

-- the greatest depth and the greatest number of nodes that this runtime accepts (Concurrent ML has no such limits)
abbrev pub max_depth : ℕ
max_depth = 64

abbrev pub max_nodes : ℕ
max_nodes = 65536

abbrev pub value_fits : PlainValue → Bool
value_fits v = is_within max_depth max_nodes (value_depth v) (value_nodes v)

abbrev pub event_fits : PlainEvent → Bool
event_fits e = is_within max_depth max_nodes (event_depth e) (event_nodes e)
