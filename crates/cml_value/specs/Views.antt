-- The view of each struct of `src/`, made from its fields. The fields are given by their own views.
use Rattle.std.specs.Arc.{arc_str_bytes}
use Rattle.cml_value.specs.Value.{PlainValue, unit, int, truth, text, pair, thread, chan, swapchan, ivar, mvar, mailbox, mchan, port, event}
use Rattle.cml_value.specs.Value.{PlainBase, always, send, recv, swap, iget, mtake, mget, mswap, mail_recv, port_recv, join, at_tick, after_ticks, nack}
use Rattle.cml_value.specs.Value.{PlainEvent, never, leaf, choose, wrap, guard, with_nack, scope, events}
use Rattle.cml_value.specs.declared.value.ValueKind.{ValueKind}
use Rattle.cml_value.specs.declared.value.ValueKind.TheVariants as value_kind
use Rattle.cml_value.specs.declared.value.BaseKind.{BaseKind}
use Rattle.cml_value.specs.declared.value.BaseKind.TheVariants as base_kind
use Rattle.cml_value.specs.declared.value.EventKind.{EventKind}
use Rattle.cml_value.specs.declared.value.EventKind.TheVariants as event_kind

abbrev pub plain_value : ValueKind → PlainValue
plain_value value_kind.Unit = unit
plain_value (value_kind.Int z) = int z
plain_value (value_kind.Bool b) = truth b
plain_value (value_kind.Text s) = text (arc_str_bytes s)
plain_value (value_kind.Pair p) = pair p.value.0 p.value.1
plain_value (value_kind.Thread t) = thread t.0
plain_value (value_kind.Chan c) = chan c.0
plain_value (value_kind.Swap s) = swapchan s.0
plain_value (value_kind.IVar i) = ivar i.0
plain_value (value_kind.MVar m) = mvar m.0
plain_value (value_kind.Mailbox b) = mailbox b.0
plain_value (value_kind.Mchan x) = mchan x.0
plain_value (value_kind.Port p) = port p.0
plain_value (value_kind.Event e) = event e.value

abbrev pub plain_base : BaseKind → PlainBase
plain_base (base_kind.Always v) = always v
plain_base (base_kind.Send c v) = send c.0 v
plain_base (base_kind.Recv c) = recv c.0
plain_base (base_kind.Swap s v) = swap s.0 v
plain_base (base_kind.IGet i) = iget i.0
plain_base (base_kind.MTake m) = mtake m.0
plain_base (base_kind.MGet m) = mget m.0
plain_base (base_kind.MSwap m v) = mswap m.0 v
plain_base (base_kind.MailRecv b) = mail_recv b.0
plain_base (base_kind.PortRecv p) = port_recv p.0
plain_base (base_kind.Join t) = join t.0
plain_base (base_kind.At tick) = at_tick tick
plain_base (base_kind.After delay) = after_ticks delay
plain_base (base_kind.Nack k) = nack k.0

abbrev pub plain_event : EventKind → PlainEvent
plain_event event_kind.Never = never
plain_event (event_kind.Leaf b) = leaf b
plain_event (event_kind.Choose es) = choose (events es.value.items)
plain_event (event_kind.Wrap e f) = wrap e.value f
plain_event (event_kind.Guard f) = guard f
plain_event (event_kind.WithNack f) = with_nack f
plain_event (event_kind.Scope k e) = scope k.0 e.value
