-- What a thread waits for, with the state of each object in the world.
use Rattle.std.specs.Prelude.{ℕ, Bool, true, false, if◌then◌else◌, List, map, length, take, Option, Some, None, option_map, slice_get}
use Rattle.std.specs.List.{list_any}
use Rattle.cml_value.specs.Value.{PlainValue, PlainFunction, PlainBase, iget, mtake, mget, mswap, mail_recv, port_recv, join, nack}
use Rattle.cml_value.specs.Group.{PlainGroup, bases, leaf_count}
use Rattle.cml_scan.specs.World.{PlainThread, running, pending_on, ended, PlainNack, fresh_of, live, fired, held, PlainWorld}
use Rattle.cml_scan.specs.Light.{is_full}
use Rattle.cml_phrase.specs.declared.event.ObjectState.{ObjectState}
use Rattle.cml_phrase.specs.declared.event.ObjectState.TheVariants as state
use Rattle.cml_phrase.specs.Events.{event_limit}
use Rattle.cml_facts.specs.declared.ending.awaited.Named.{Named}
use Rattle.cml_facts.specs.declared.ending.awaited.AwaitedEvent.{AwaitedEvent}

abbrev pub variable_state : Option (Option PlainValue) → ObjectState
variable_state held_so = if is_full held_so then state.Full else state.Empty

-- of a mailbox or a port
abbrev pub queue_state : Option (List PlainValue) → ObjectState
queue_state (Some items) = state.Holds (length items)
queue_state None = state.Unsaid

abbrev pub thread_state : Option PlainThread → ObjectState
thread_state (Some running) = state.Runs
thread_state (Some (pending_on g)) = state.Waits
thread_state (Some ended) = state.Ended
thread_state None = state.Unsaid

abbrev pub nack_state : Option PlainNack → ObjectState
nack_state (Some (fresh_of t)) = state.Fresh
nack_state (Some live) = state.Live
nack_state (Some fired) = state.Fired
nack_state (Some held) = state.Held
nack_state None = state.Unsaid

-- the state of what a base event waits for
abbrev pub object_state : PlainWorld → PlainBase → ObjectState
object_state w (iget i) = variable_state (slice_get w.ivars i)
object_state w (mtake m) = variable_state (slice_get w.mvars m)
object_state w (mget m) = variable_state (slice_get w.mvars m)
object_state w (mswap m v) = variable_state (slice_get w.mvars m)
object_state w (mail_recv b) = queue_state (slice_get w.mailboxes b)
object_state w (port_recv p) = queue_state (slice_get w.ports p)
object_state w (join t) = thread_state (slice_get w.threads t)
object_state w (nack k) = nack_state (slice_get w.nacks k)
object_state w b = state.Unsaid

-- The thread of which a base event speaks: the one that took last from its M-variable, or the one whose end it waits for.
abbrev pub thread_behind : (ℕ → Option ℕ) → PlainBase → Option ℕ
thread_behind taker (mtake m) = taker m
thread_behind taker (mget m) = taker m
thread_behind taker (mswap m v) = taker m
thread_behind taker (join t) = Some t
thread_behind taker b = None

-- a thread, with the function with which it began
abbrev pub who_is : List PlainFunction → ℕ → Named
who_is began t = record { thread = t; began = slice_get began t }

-- the thread behind a base event, with the function with which it began
abbrev pub named_behind : List PlainFunction → (ℕ → Option ℕ) → PlainBase → Option Named
named_behind began taker b = option_map (who_is began) (thread_behind taker b)

-- a base event, the state of what it waits for, and the thread behind it
abbrev pub awaited_event : PlainWorld → List PlainFunction → (ℕ → Option ℕ) → PlainBase → AwaitedEvent
awaited_event w began taker b = record { base = b; state = object_state w b; behind = named_behind began taker b }

-- what a thread waits for: the first of its base events, and how many it has
pub record PlainAwaited : Type 0 where
  pub events : List AwaitedEvent
  pub count : ℕ

-- that of a thread that waits on this group: the base events of its leaves, from the left
abbrev pub awaited_of : PlainWorld → List PlainFunction → (ℕ → Option ℕ) → PlainGroup → PlainAwaited
awaited_of w began taker g = record {
  events = map (awaited_event w began taker) (take event_limit (bases g));
  count = leaf_count g;
}

-- the base event is one of an M-variable
abbrev pub is_on_mvar : PlainBase → Bool
is_on_mvar (mtake m) = true
is_on_mvar (mget m) = true
is_on_mvar (mswap m v) = true
is_on_mvar b = false

-- the thread waits for an M-variable
abbrev pub waits_on_mvar : PlainThread → Bool
waits_on_mvar running = false
waits_on_mvar (pending_on g) = list_any is_on_mvar (bases g)
waits_on_mvar ended = false
