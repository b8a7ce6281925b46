-- What each command does, and what a list of commands does.
use Rattle.std.specs.Prelude.{◌≡◌, ◌≢◌, Bool, true, false, List, [], ◌∷◌, ◌++◌, Result, Ok, Err}
use Rattle.cml_scan.specs.World.{PlainWorld}
use Rattle.cml_book.specs.declared.refusal.Fault.{Fault}
use Rattle.cml_book.specs.declared.refusal.Returned.{Returned}
use Rattle.cml_book.specs.declared.refusal.Fault.TheVariants.{Refused, Memory}
use Rattle.cml_book.specs.declared.command.Command.{Command}
use Rattle.cml_book.specs.declared.command.Command.TheVariants as command
use Rattle.cml_book.specs.declared.command.Reply.{Reply}
use Rattle.cml_book.specs.declared.command.Reply.TheVariants as reply
use Rattle.cml_book.specs.Outcomes.{Outcome}
use Rattle.cml_book.specs.Spawn.{spawn}
use Rattle.cml_book.specs.MakeChan.{make_chan}
use Rattle.cml_book.specs.MakeSwap.{make_swap}
use Rattle.cml_book.specs.MakeObjects.{make_ivar, make_mvar, make_mailbox, make_mchan}
use Rattle.cml_book.specs.MakePort.{make_port, copy_port}
use Rattle.cml_book.specs.Put.{iput, mput}
use Rattle.cml_book.specs.Mail.{mail}
use Rattle.cml_book.specs.Multicast.{multicast}
use Rattle.cml_book.specs.Nack.{nack}
use Rattle.cml_book.specs.Sync.{sync}
use Rattle.cml_book.specs.Commit.{commit}
use Rattle.cml_book.specs.End.{end}
use Rattle.cml_book.specs.Clock.{clock}

-- the world and the reply of an outcome; a refusal leaves the world as it was
abbrev pub answered : {R : Type 0} → (R → Reply) → PlainWorld → Outcome R → PlainWorld × Reply
answered reply_for w (Ok next) = (next.0, reply_for next.1)
answered reply_for w (Err why) = (w, reply.Refused why)

-- what one command does, by cases
abbrev pub step : PlainWorld → Command → PlainWorld × Reply
step w command.Spawn = answered reply.Thread w (spawn w)
step w command.MakeChan = answered reply.Chan w (make_chan w)
step w command.MakeSwap = answered reply.Swap w (make_swap w)
step w command.MakeIVar = answered reply.IVar w (make_ivar w)
step w (command.MakeMVar v) = answered reply.MVar w (make_mvar w v)
step w command.MakeMailbox = answered reply.Mailbox w (make_mailbox w)
step w command.MakeMChan = answered reply.Mchan w (make_mchan w)
step w (command.MakePort x) = answered reply.Port w (make_port w x.0)
step w (command.CopyPort p) = answered reply.Port w (copy_port w p.0)
step w (command.IPut i v) = answered (λ _. reply.Done) w (iput w i.0 v)
step w (command.MPut m v) = answered (λ _. reply.Done) w (mput w m.0 v)
step w (command.Mail b v) = answered (λ _. reply.Done) w (mail w b.0 v)
step w (command.Multicast x v) = answered (λ _. reply.Done) w (multicast w x.0 v)
step w (command.Nack t) = answered reply.Nack w (nack w t.0)
step w (command.Sync t g) = answered (λ _. reply.Done) w (sync w t.0 g)
step w (command.Commit row) = answered reply.Committed w (commit w row)
step w (command.End t) = answered (λ _. reply.Done) w (end w t.0)
step w (command.Clock k) = answered (λ _. reply.Done) w (clock w k)

-- whether the reply says that the command was refused
abbrev pub is_refusal : Reply → Bool
is_refusal (reply.Refused why) = true
is_refusal _ = false

-- The call does the command, and returns its reply; or it runs out of memory, which can happen only where the command is not refused,
-- nothing changes, and the command comes back.
abbrev pub DoesStep : Result Reply (Returned Command) → Command → PlainWorld → PlainWorld → Type 0
DoesStep (Ok reply) asked old new = step old asked ≡ (new, reply)
DoesStep (Err back) asked old new = (back.value ≡ asked) × (back.fault ≡ Memory) × (is_refusal (step old asked).1 ≡ false) × (new ≡ old)

-- the replies to a list of commands, in order
abbrev pub replies_of : List Command → PlainWorld → List Reply
replies_of [] w = []
replies_of (c ∷ cs) w = (step w c).1 ∷ replies_of cs (step w c).0

-- the world after a list of commands
abbrev pub world_after : List Command → PlainWorld → PlainWorld
world_after [] w = w
world_after (c ∷ cs) w = world_after cs (step w c).0

-- Some of the commands were done, with these replies, and these are left, of which there is at least one. A run stops where memory runs
-- out; that may be at a command that would be refused, since its reply needs room too.
pub record HasStopped (commands : List Command) (replies : List Reply) (left : List Command) (old new : PlainWorld) : Type 0 where
  pub done : List Command
  pub split : commands ≡ done ++ left
  pub told_so_far : replies ≡ replies_of done old
  pub stands : new ≡ world_after done old
  pub some_left : left ≢ []

-- the empty world, at time 0
abbrev pub empty_world : PlainWorld
empty_world = record { threads = []; channels = 0; swaps = 0; ivars = []; mvars = []; mailboxes = []; mchans = []; ports = []; nacks = []; tick = 0 }

-- a refusal is a reply; where memory runs out the command comes back
abbrev pub refused_reply : Fault → Command → Result Reply (Returned Command)
refused_reply (Refused why) c = Ok (reply.Refused why)
refused_reply Memory c = Err (record { value = c; fault = Memory })
