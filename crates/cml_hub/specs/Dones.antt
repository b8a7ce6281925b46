-- What the code keeps of an ask that was done.
use Rattle.std.specs.Prelude.{◌≡◌, ℕ, true, false, List, [], ◌∷◌, ◌++◌, length, slice_set}
use Rattle.cml_text.specs.Lines.{line}
use Rattle.cml_value.specs.Value.{PlainValue, unit, thread, PlainFunction, function, no_values}
use Rattle.cml_scan.specs.World.{PlainThread, running}
use Rattle.cml_check.specs.Syntax.{PlainItem}
use Rattle.cml_check.specs.InOrder.{arities}
use Rattle.cml_step.specs.Agrees.{value_agrees}
use Rattle.cml_step.specs.Answers.{nothing, value, nack, commit, top_await, await_of}
use Rattle.cml_step.specs.AnswerViews.{Awaits}
use Rattle.cml_step.specs.Asks as ask
use Rattle.cml_step.specs.Asks.{PlainAsk, a_value, a_nack}
use Rattle.cml_step.specs.Calls.{text_of}
use Rattle.cml_step.specs.Faults.{fault_name}
use Rattle.cml_step.specs.Machines.{PlainMachine, machine_term, Fits}
use Rattle.cml_step.specs.Nacks.{IsNackRoom}
use Rattle.cml_step.specs.Terms.{call_of}
use Rattle.cml_book.specs.Walks.{runs}
use Rattle.cml_hub.specs.declared.done.Done.{Done}
use Rattle.cml_hub.specs.declared.done.Done.TheVariants as done_of
use Rattle.cml_hub.specs.declared.done.AfterTurn.{AfterTurn}
use Rattle.cml_hub.specs.declared.done.AfterTurn.TheVariants as gone_of
use Rattle.cml_hub.specs.Performed.{PlainDone, goes, gets, spawns, prints, waits, ends, fails, spoken}
use Rattle.cml_hub.specs.Runs.{term_after, output_of}

-- the function of the thread that is asked for, and the value that is printed; of other asks they mean nothing
abbrev pub function_asked : PlainAsk → PlainFunction
function_asked (ask.spawn f) = f
function_asked _ = function 0 no_values

abbrev pub value_asked : PlainAsk → PlainValue
value_asked (ask.print v) = v
value_asked _ = unit

-- what becomes of a thread that has asked this
abbrev pub plain_done : PlainAsk → Done → PlainDone
plain_done a done_of.Goes = goes
plain_done a (done_of.Gets v) = gets (a_value v)
plain_done a (done_of.Takes room) = gets (a_nack room.value.nack.0)
plain_done a (done_of.Spawns m) = spawns m.value.thread (function_asked a)
plain_done a done_of.Prints = prints (line (spoken (value_asked a)))
plain_done a done_of.Waits = waits
plain_done a done_of.Ends = ends
plain_done a (done_of.Fails name) = fails name.now

-- what an ask adds to the output where it is not refused
abbrev pub told_ahead : ℕ → PlainAsk → List ℕ
told_ahead t (ask.print v) = line (spoken v)
told_ahead t (ask.fault why) = output_of t (fails (fault_name why))
told_ahead t _ = []

-- the machine of a thread that begins with a call of the function
pub record IsChild (p : List (PlainItem ℕ)) (f : PlainFunction) (m : PlainMachine) : Type 0 where
  pub term : machine_term p m ≡ call_of (text_of p) f ∷ []
  pub fits : Fits p m
  pub awaits : top_await (machine_term p m) ≡ nothing

-- What was done answers what was asked; its value agrees with the program; there is room for the answer of a nack; and a new thread stands
-- at its beginning.
abbrev pub DoneFits : List (PlainItem ℕ) → PlainAsk → PlainMachine → Done → Type 0
DoneFits p a end done_of.Goes = await_of a ≡ nothing
DoneFits p a end (done_of.Gets v) = (await_of a ≡ value) × (value_agrees (arities p) v ≡ true)
DoneFits p a end (done_of.Takes room) = (await_of a ≡ nack) × IsNackRoom end room.value
DoneFits p a end (done_of.Spawns m) = (await_of a ≡ value) × IsChild p (function_asked a) m.value
DoneFits p a end done_of.Prints = await_of a ≡ value
DoneFits p a end done_of.Waits = await_of a ≡ commit
DoneFits p a end done_of.Ends = Unit {0}
DoneFits p a end (done_of.Fails name) = Unit {0}

-- the machine waits for the answer that it gets
abbrev pub CanSettle : PlainMachine → Done → Type 0
CanSettle end (done_of.Gets v) = Awaits end (a_value v)
CanSettle end (done_of.Takes room) = IsNackRoom end room.value
CanSettle end (done_of.Spawns m) = Awaits end (a_value (thread m.value.thread))
CanSettle end done_of.Prints = Awaits end (a_value unit)
CanSettle end _ = Unit {0}

-- a machine whose thread goes on, and one whose thread waits
abbrev pub GoesOn : List (PlainItem ℕ) → PlainMachine → Type 0
GoesOn p m = Fits p m × (top_await (machine_term p m) ≡ nothing)

abbrev pub AwaitsCommit : List (PlainItem ℕ) → PlainMachine → Type 0
AwaitsCommit p m = Fits p m × (top_await (machine_term p m) ≡ commit)

abbrev pub StandsAfter : List (PlainItem ℕ) → Done → PlainMachine → Type 0
StandsAfter p done_of.Waits m = AwaitsCommit p m
StandsAfter p done_of.Ends m = Unit {0}
StandsAfter p (done_of.Fails name) m = Unit {0}
StandsAfter p _ m = GoesOn p m

-- the machine after its ask was done
pub record Settles (p : List (PlainItem ℕ)) (a : PlainAsk) (end : PlainMachine) (d : Done) (new : PlainMachine) : Type 0 where
  pub thread : new.thread ≡ end.thread
  pub term : machine_term p new ≡ term_after (text_of p) (machine_term p end) (plain_done a d)
  pub stands : StandsAfter p d new

-- the machines of the threads that begin
abbrev pub children : Done → List PlainMachine
children (done_of.Spawns m) = m.value ∷ []
children _ = []

-- whether the thread goes on, and whether another begins
abbrev pub gone : Done → AfterTurn
gone (done_of.Spawns m) = gone_of.With (record { 0 = m.value.thread })
gone done_of.Waits = gone_of.Off
gone done_of.Ends = gone_of.Off
gone (done_of.Fails name) = gone_of.Off
gone _ = gone_of.On

-- the threads after a turn of the thread t: it goes on, and another one may have begun; or it runs no more
abbrev pub ThreadsAfter : ℕ → AfterTurn → List PlainThread → List PlainThread → Type 0
ThreadsAfter t gone_of.On old new = new ≡ old
ThreadsAfter t (gone_of.With child) old new = (child.0 ≡ length old) × (new ≡ old ++ running ∷ [])
ThreadsAfter t gone_of.Off old new = (now : PlainThread) × (runs now ≡ false) × (new ≡ slice_set old t now)
