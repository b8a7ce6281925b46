-- What an ask of a thread does to the world, and what becomes of the thread.
use Rattle.std.specs.Prelude.{ℕ, pos, List, Ok, Err}
use Rattle.cml_text.specs.Lines.{line}
use Rattle.cml_value.specs.Value.{PlainValue, unit, int, text, chan, swapchan, ivar, mvar, mailbox, mchan, port, PlainFunction}
use Rattle.cml_value.specs.Show.{shown}
use Rattle.cml_scan.specs.World.{PlainWorld, ended}
use Rattle.cml_step.specs.Asks as ask
use Rattle.cml_step.specs.Asks.{PlainAsk, PlainAnswer, a_value, a_nack}
use Rattle.cml_step.specs.Faults.{fault_name}
use Rattle.cml_book.specs.Outcomes.{Outcome, with_thread}
use Rattle.cml_book.specs.Refusals.{name_of}
use Rattle.cml_book.specs.Spawn.{spawn}
use Rattle.cml_book.specs.MakeChan.{make_chan}
use Rattle.cml_book.specs.MakeSwap.{make_swap}
use Rattle.cml_book.specs.MakeObjects.{make_ivar, make_mvar, make_mailbox, make_mchan}
use Rattle.cml_book.specs.MakePort.{make_port, copy_port}
use Rattle.cml_book.specs.Put.{iput, mput}
use Rattle.cml_book.specs.Mail.{mail}
use Rattle.cml_book.specs.Multicast.{multicast}
use Rattle.cml_book.specs.Nack.{nack}
use Rattle.cml_book.specs.Sync.{sync}
use Rattle.cml_book.specs.End.{end}

-- What becomes of a thread that has asked: it goes on, with nothing or with an answer; a new thread of this number begins with a call of
-- this function, and the one that asked gets the new thread as its answer; it has printed this text, and goes on; it waits; it has ended;
-- or it has ended at a fault of this name.
pub data PlainDone : Type 0 where
  goes : PlainDone
  gets : PlainAnswer → PlainDone
  spawns : ℕ → PlainFunction → PlainDone
  prints : List ℕ → PlainDone
  waits : PlainDone
  ends : PlainDone
  fails : List ℕ → PlainDone

-- the world after a command, and what becomes of the thread by the command's answer
abbrev pub done : {R : Type 0} → (R → PlainDone) → Outcome R → Outcome PlainDone
done so (Ok next) = Ok (next.0, so next.1)
done so (Err why) = Err why

-- a refused command ends the thread, with a fault that has the refusal's name
abbrev pub or_fails : PlainWorld → ℕ → Outcome PlainDone → PlainWorld × PlainDone
or_fails w t (Ok next) = next
or_fails w t (Err why) = (with_thread w t ended, fails (name_of why))

-- the characters of a text, and any other value as it is shown
abbrev pub spoken : PlainValue → List ℕ
spoken (text bytes) = bytes
spoken v = shown v

-- Each ask is a command of the book, done for the thread of this number, except `nothing`, `yield`, `print` and `now`.
abbrev pub asked : PlainWorld → ℕ → PlainAsk → Outcome PlainDone
asked w t ask.nothing = Ok (w, goes)
asked w t ask.yield = Ok (w, gets (a_value unit))
asked w t (ask.spawn f) = done (λ n. spawns n.0 f) (spawn w)
asked w t ask.make_chan = done (λ c. gets (a_value (chan c.0))) (make_chan w)
asked w t ask.make_swap = done (λ s. gets (a_value (swapchan s.0))) (make_swap w)
asked w t ask.make_ivar = done (λ i. gets (a_value (ivar i.0))) (make_ivar w)
asked w t (ask.make_mvar v) = done (λ m. gets (a_value (mvar m.0))) (make_mvar w v)
asked w t ask.make_mailbox = done (λ b. gets (a_value (mailbox b.0))) (make_mailbox w)
asked w t ask.make_mchan = done (λ x. gets (a_value (mchan x.0))) (make_mchan w)
asked w t (ask.make_port x) = done (λ p. gets (a_value (port p.0))) (make_port w x)
asked w t (ask.copy_port p) = done (λ q. gets (a_value (port q.0))) (copy_port w p)
asked w t (ask.iput i v) = done (λ _. gets (a_value unit)) (iput w i v)
asked w t (ask.mput m v) = done (λ _. gets (a_value unit)) (mput w m v)
asked w t (ask.mail b v) = done (λ _. gets (a_value unit)) (mail w b v)
asked w t (ask.multicast x v) = done (λ _. gets (a_value unit)) (multicast w x v)
asked w t (ask.print v) = Ok (w, prints (line (spoken v)))
asked w t ask.now = Ok (w, gets (a_value (int (pos w.tick))))
asked w t ask.fresh_nack = done (λ k. gets (a_nack k.0)) (nack w t)
asked w t (ask.sync g) = done (λ _. waits) (sync w t g)
asked w t ask.end = done (λ _. ends) (end w t)
asked w t (ask.fault why) = done (λ _. fails (fault_name why)) (end w t)

-- the world after the ask, and what becomes of the thread
abbrev pub performed : PlainWorld → ℕ → PlainAsk → PlainWorld × PlainDone
performed w t a = or_fails w t (asked w t a)
