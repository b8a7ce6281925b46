-- The view of each struct of `src/`, made from its fields.
use Rattle.std.specs.Prelude.{ℕ, List, map, Vec}
use Rattle.std.specs.declared.alloc.Global.{Global}
use Rattle.cml_value.specs.Value.{PlainValue}
use Rattle.cml_value.specs.declared.number.PortId.{PortId}
use Rattle.cml_scan.specs.World.{PlainThread, running, pending_on, ended, PlainNack, fresh_of, live, fired, held}
use Rattle.cml_scan.specs.declared.world.ThreadState.{ThreadState}
use Rattle.cml_scan.specs.declared.world.ThreadState.TheVariants as thread
use Rattle.cml_scan.specs.declared.world.NackState.{NackState}
use Rattle.cml_scan.specs.declared.world.NackState.TheVariants as nack

abbrev pub thread_of : ThreadState → PlainThread
thread_of thread.Running = running
thread_of (thread.Pending g) = pending_on g
thread_of thread.Ended = ended

abbrev pub nack_of : NackState → PlainNack
nack_of (nack.Fresh t) = fresh_of t.0
nack_of nack.Live = live
nack_of nack.Fired = fired
nack_of nack.Held = held

-- each list of a list
abbrev pub lists_of : List (Vec PlainValue Global) → List (List PlainValue)
lists_of queues = map (λ v. v.items) queues

abbrev pub port_lists_of : List (Vec PortId Global) → List (List ℕ)
port_lists_of channels = map (λ v. map (λ p. p.0) v.items) channels
