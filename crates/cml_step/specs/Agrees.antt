-- When a value agrees with a program: each function captured in an event in it, at any depth, is one of the program's, with as many
-- captured values as its place asks for. Here `arities` says how many parameters each function of the program has.
use Rattle.std.specs.Prelude.{ℕ, ◌+◌, Bool, true, ◌&&◌, List, [], ◌∷◌, Option, Some, None}
use Rattle.cml_value.specs.Value.{PlainValue, pair, event, PlainValues, no_values, values_and, PlainFunction, function}
use Rattle.cml_value.specs.Value.{PlainBase, always, send, recv, swap, iget, mtake, mget, mswap, mail_recv, port_recv, join, at_tick, after_ticks, nack}
use Rattle.cml_value.specs.Value.{PlainEvent, never, leaf, choose, wrap, guard, with_nack, scope, PlainEvents, no_events, events_and}
use Rattle.cml_value.specs.Group.{PlainLeaf}
use Rattle.cml_check.specs.Heads.{takes}
use Rattle.cml_group.specs.Force.{event_of}
use Rattle.cml_step.specs.Asks as ask
use Rattle.cml_step.specs.Asks.{PlainAsk, PlainAnswer, a_value, a_nack, a_commit}

abbrev pub values_count : PlainValues → ℕ
values_count no_values = 0
values_count (values_and v vs) = values_count vs + 1

-- A guard's function is called with its captured values alone, that of a wrap or a withNack with one more.
abbrev mutual
  pub value_agrees : List ℕ → PlainValue → Bool
  value_agrees arities (pair a b) = value_agrees arities a && value_agrees arities b
  value_agrees arities (event e) = event_agrees arities e
  value_agrees arities _ = true

  pub values_agree : List ℕ → PlainValues → Bool
  values_agree arities no_values = true
  values_agree arities (values_and v vs) = value_agrees arities v && values_agree arities vs

  pub function_agrees : List ℕ → ℕ → PlainFunction → Bool
  function_agrees arities more (function f vs) = takes arities f (values_count vs + more) && values_agree arities vs

  pub base_agrees : List ℕ → PlainBase → Bool
  base_agrees arities (always v) = value_agrees arities v
  base_agrees arities (send c v) = value_agrees arities v
  base_agrees arities (recv c) = true
  base_agrees arities (swap s v) = value_agrees arities v
  base_agrees arities (iget i) = true
  base_agrees arities (mtake m) = true
  base_agrees arities (mget m) = true
  base_agrees arities (mswap m v) = value_agrees arities v
  base_agrees arities (mail_recv b) = true
  base_agrees arities (port_recv p) = true
  base_agrees arities (join t) = true
  base_agrees arities (at_tick t) = true
  base_agrees arities (after_ticks d) = true
  base_agrees arities (nack k) = true

  pub event_agrees : List ℕ → PlainEvent → Bool
  event_agrees arities never = true
  event_agrees arities (leaf b) = base_agrees arities b
  event_agrees arities (choose es) = events_agree arities es
  event_agrees arities (wrap e f) = event_agrees arities e && function_agrees arities 1 f
  event_agrees arities (guard f) = function_agrees arities 0 f
  event_agrees arities (with_nack f) = function_agrees arities 1 f
  event_agrees arities (scope k e) = event_agrees arities e

  pub events_agree : List ℕ → PlainEvents → Bool
  events_agree arities no_events = true
  events_agree arities (events_and e es) = event_agrees arities e && events_agree arities es

-- each of these values agrees
abbrev pub all_agree : List ℕ → List PlainValue → Bool
all_agree arities [] = true
all_agree arities (v ∷ vs) = value_agrees arities v && all_agree arities vs

-- each of these functions takes its captured values and one more
abbrev pub functions_agree : List ℕ → List PlainFunction → Bool
functions_agree arities [] = true
functions_agree arities (f ∷ fs) = function_agrees arities 1 f && functions_agree arities fs

-- a leaf of a group: its base event, and the functions of the wraps that its value goes through
abbrev pub leaf_agrees : List ℕ → PlainLeaf → Bool
leaf_agrees arities l = base_agrees arities l.base && functions_agree arities l.wraps

-- what a thread is answered agrees with the program: the value, and the functions of the wraps that it goes through
abbrev pub answer_agrees : List ℕ → PlainAnswer → Bool
answer_agrees arities (a_value v) = value_agrees arities v
answer_agrees arities (a_nack k) = true
answer_agrees arities (a_commit v fs) = value_agrees arities v && functions_agree arities fs

-- what a thread asks agrees with the program: the function of a new thread, each value that is handed over, and the group
abbrev pub maybe_agrees : List ℕ → Option PlainValue → Bool
maybe_agrees arities (Some v) = value_agrees arities v
maybe_agrees arities None = true

abbrev pub ask_agrees : List ℕ → PlainAsk → Bool
ask_agrees arities ask.nothing = true
ask_agrees arities ask.yield = true
ask_agrees arities (ask.spawn f) = function_agrees arities 0 f
ask_agrees arities ask.make_chan = true
ask_agrees arities ask.make_swap = true
ask_agrees arities ask.make_ivar = true
ask_agrees arities (ask.make_mvar v) = maybe_agrees arities v
ask_agrees arities ask.make_mailbox = true
ask_agrees arities ask.make_mchan = true
ask_agrees arities (ask.make_port x) = true
ask_agrees arities (ask.copy_port p) = true
ask_agrees arities (ask.iput i v) = value_agrees arities v
ask_agrees arities (ask.mput m v) = value_agrees arities v
ask_agrees arities (ask.mail b v) = value_agrees arities v
ask_agrees arities (ask.multicast x v) = value_agrees arities v
ask_agrees arities (ask.print v) = value_agrees arities v
ask_agrees arities ask.now = true
ask_agrees arities ask.fresh_nack = true
ask_agrees arities (ask.sync g) = event_agrees arities (event_of g)
ask_agrees arities ask.end = true
ask_agrees arities (ask.fault why) = true
