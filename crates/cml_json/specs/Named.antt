-- The names by which an object says of what kind a thing is: tables.
use Rattle.std.specs.Prelude.{ℕ, List, [], ◌∷◌, codes, Option, Some, None}
use Rattle.cml_value.specs.Value.{PlainValue, PlainBase, always, send, recv, swap, iget, mtake, mget, mswap, mail_recv, port_recv, join, at_tick, after_ticks, nack}
use Rattle.cml_check.specs.declared.syntax.Unary.{Unary}
use Rattle.cml_check.specs.declared.syntax.Unary.TheVariants as unary
use Rattle.cml_check.specs.declared.syntax.Binary.{Binary}
use Rattle.cml_check.specs.declared.syntax.Binary.TheVariants as binary
use Rattle.cml_check.specs.declared.syntax.ActOnOne.{ActOnOne}
use Rattle.cml_check.specs.declared.syntax.ActOnOne.TheVariants as one
use Rattle.cml_check.specs.declared.syntax.ActOnTwo.{ActOnTwo}
use Rattle.cml_check.specs.declared.syntax.ActOnTwo.TheVariants as two
use Rattle.cml_hub.specs.declared.fault.End.{End}
use Rattle.cml_hub.specs.declared.fault.End.TheVariants as end
use Rattle.cml_phrase.specs.declared.event.ObjectState.{ObjectState}
use Rattle.cml_phrase.specs.declared.event.ObjectState.TheVariants as state
use Rattle.cml_step.specs.Faults.{fault_name}
use Rattle.cml_facts.specs.declared.fault.part.Part.{Part}
use Rattle.cml_facts.specs.declared.fault.part.Part.TheVariants as part
use Rattle.cml_facts.specs.declared.fault.reason.Reason.{Reason}
use Rattle.cml_facts.specs.declared.fault.reason.Reason.TheVariants as reason

-- how a run ended
unfoldable pub ending_name : End → List ℕ
ending_name end.Quiet = codes "quiet"
ending_name end.Budget = codes "budget"
ending_name end.Partial = codes "partial"

-- ---- what a thread waits for

-- a base event by the word with which a script makes it
unfoldable pub event_name : PlainBase → List ℕ
event_name (always v) = codes "always"
event_name (send c v) = codes "send"
event_name (recv c) = codes "recv"
event_name (swap s v) = codes "swap"
event_name (iget i) = codes "iget"
event_name (mtake m) = codes "mtake"
event_name (mget m) = codes "mget"
event_name (mswap m v) = codes "mswap"
event_name (mail_recv b) = codes "mailrecv"
event_name (port_recv p) = codes "portrecv"
event_name (join t) = codes "join"
event_name (at_tick tick) = codes "at"
event_name (after_ticks delay) = codes "after"
event_name (nack k) = codes "nack"

-- the number of its object or thread, or of its ticks
unfoldable pub event_number : PlainBase → Option ℕ
event_number (always v) = None
event_number (send c v) = Some c
event_number (recv c) = Some c
event_number (swap s v) = Some s
event_number (iget i) = Some i
event_number (mtake m) = Some m
event_number (mget m) = Some m
event_number (mswap m v) = Some m
event_number (mail_recv b) = Some b
event_number (port_recv p) = Some p
event_number (join t) = Some t
event_number (at_tick tick) = Some tick
event_number (after_ticks delay) = Some delay
event_number (nack k) = Some k

-- the value that it gives
unfoldable pub event_value : PlainBase → Option PlainValue
event_value (always v) = Some v
event_value (send c v) = Some v
event_value (swap s v) = Some v
event_value (mswap m v) = Some v
event_value b = None

-- the state of what is waited for
unfoldable pub state_name : ObjectState → Option (List ℕ)
state_name state.Unsaid = None
state_name state.Empty = Some (codes "empty")
state_name state.Full = Some (codes "full")
state_name (state.Holds n) = Some (codes "holds")
state_name state.Waits = Some (codes "waits")
state_name state.Runs = Some (codes "runs")
state_name state.Ended = Some (codes "ended")
state_name state.Fresh = Some (codes "fresh")
state_name state.Live = Some (codes "live")
state_name state.Held = Some (codes "held")
state_name state.Fired = Some (codes "fired")

-- how many items it holds
unfoldable pub state_items : ObjectState → Option ℕ
state_items (state.Holds n) = Some n
state_items s = None

-- ---- why a thread ended at a fault

unfoldable pub unary_name : Unary → List ℕ
unary_name unary.Not = codes "not"
unary_name unary.Fst = codes "fst"
unary_name unary.Snd = codes "snd"
unary_name unary.Always = codes "always"
unary_name unary.Recv = codes "recv"
unary_name unary.IGet = codes "iget"
unary_name unary.MTake = codes "mtake"
unary_name unary.MGet = codes "mget"
unary_name unary.MailRecv = codes "mailrecv"
unary_name unary.PortRecv = codes "portrecv"
unary_name unary.Join = codes "join"
unary_name unary.At = codes "at"
unary_name unary.After = codes "after"

unfoldable pub binary_name : Binary → List ℕ
binary_name binary.Plus = codes "+"
binary_name binary.Minus = codes "-"
binary_name binary.Times = codes "*"
binary_name binary.Less = codes "<"
binary_name binary.Equal = codes "="
binary_name binary.Pair = codes "pair"
binary_name binary.Send = codes "send"
binary_name binary.Swap = codes "swap"
binary_name binary.MSwap = codes "mswap"

unfoldable pub one_name : ActOnOne → List ℕ
one_name one.Sync = codes "sync"
one_name one.MVar = codes "mvar"
one_name one.Port = codes "port"
one_name one.Copy = codes "copy"
one_name one.Print = codes "print"

unfoldable pub two_name : ActOnTwo → List ℕ
two_name two.IPut = codes "iput"
two_name two.MPut = codes "mput"
two_name two.Mail = codes "mail"
two_name two.Multicast = codes "multicast"

-- the part that is at fault, by the word with which a script has it
unfoldable pub part_name : Part → Option (List ℕ)
part_name part.Other = None
part_name (part.Unary operator v) = Some (unary_name operator)
part_name (part.Binary operator v w) = Some (binary_name operator)
part_name (part.Choose v) = Some (codes "choose")
part_name (part.Wrap v) = Some (codes "wrap")
part_name part.Made = None
part_name (part.ActOnOne act v) = Some (one_name act)
part_name (part.ActOnTwo act v w) = Some (two_name act)
part_name (part.If v) = Some (codes "if")
part_name (part.While v) = Some (codes "while")
part_name (part.Returned v) = None

-- the value that it was given, or that a function returned; the first of two
unfoldable pub part_value : Part → Option PlainValue
part_value (part.Unary operator v) = Some v
part_value (part.Binary operator v w) = Some v
part_value (part.Choose v) = v
part_value (part.Wrap v) = Some v
part_value (part.ActOnOne act v) = Some v
part_value (part.ActOnTwo act v w) = Some v
part_value (part.If v) = Some v
part_value (part.While v) = Some v
part_value (part.Returned v) = Some v
part_value p = None

-- the second of two values that it was given
unfoldable pub part_other : Part → Option PlainValue
part_other (part.Binary operator v w) = Some w
part_other (part.ActOnTwo act v w) = Some w
part_other p = None

-- why: the name that the line of a fault gives it; `leaves` and `far` are not told apart
unfoldable pub reason_name : Reason → List ℕ
reason_name (reason.Step why p) = fault_name why
reason_name (reason.FullIVar i) = codes "put"
reason_name (reason.FullMVar m) = codes "put"
reason_name reason.Group = codes "leaves_or_far"
reason_name (reason.FullMailbox b) = codes "full"
reason_name (reason.FullPort x) = codes "full"
reason_name reason.Thread = codes "full"
reason_name reason.Nack = codes "full"
reason_name reason.Object = codes "full"

-- the part that is at fault, where a step is
abbrev pub reason_part : Reason → Part
reason_part (reason.Step why p) = p
reason_part r = part.Other

-- of what there is no room, or what is full
unfoldable pub reason_object : Reason → Option (List ℕ)
reason_object (reason.FullIVar i) = Some (codes "ivar")
reason_object (reason.FullMVar m) = Some (codes "mvar")
reason_object (reason.FullMailbox b) = Some (codes "mailbox")
reason_object (reason.FullPort x) = Some (codes "mchan")
reason_object reason.Thread = Some (codes "thread")
reason_object reason.Nack = Some (codes "nack")
reason_object r = None

-- the number of what is full
unfoldable pub reason_number : Reason → Option ℕ
reason_number (reason.FullIVar i) = Some i
reason_number (reason.FullMVar m) = Some m
reason_number (reason.FullMailbox b) = Some b
reason_number (reason.FullPort x) = Some x
reason_number r = None
