-- The view of a thread of a book, made from its one field, and the views of registers and of lists of objects.
use Rattle.std.specs.Prelude.{ℕ, List, map}
use Rattle.cml_value.specs.Value.{PlainValue}
use Rattle.cml_objects.specs.PlainQueue.{PlainQueue}
use Rattle.cml_objects.specs.PlainMulticast.{PlainMulticast}
use Rattle.cml_scan.specs.World.{PlainThread, running, pending_on, ended}
use Rattle.cml_book.specs.declared.thread.Doing.{Doing}
use Rattle.cml_book.specs.declared.thread.Doing.TheVariants as doing

abbrev pub plain_doing : Doing → PlainThread
plain_doing doing.Running = running
plain_doing (doing.Pending flat) = pending_on flat
plain_doing doing.Ended = ended

-- the items of each mailbox, and the unread messages of each port
abbrev pub queues_of : List PlainQueue → List (List PlainValue)
queues_of queues = map (λ q. q.items) queues

-- the numbers of the ports of each multicast channel
abbrev pub ports_of : List PlainMulticast → List (List ℕ)
ports_of channels = map (λ c. map (λ p. p.0) c.ports) channels
