-- A machine that was answered, and the machines after a turn.
use Rattle.std.specs.Prelude.{ℕ, ◌≡◌, true, List, ◌++◌, Option, Some, None, slice_get, slice_set}
use Rattle.cml_check.specs.Syntax.{PlainItem}
use Rattle.cml_check.specs.InOrder.{arities}
use Rattle.cml_step.specs.Agrees.{answer_agrees}
use Rattle.cml_step.specs.Answers.{top_await, answer_for, after_answer, await_of, nothing}
use Rattle.cml_step.specs.AnswerViews.{Awaits}
use Rattle.cml_step.specs.Asks.{PlainAsk, PlainAnswer, a_commit}
use Rattle.cml_step.specs.Calls.{text_of}
use Rattle.cml_step.specs.Machines.{PlainMachine, machine_term, Fits}
use Rattle.cml_book.specs.Resumes.{PlainResume}
use Rattle.cml_book.specs.declared.command.Committed.{Committed}
use Rattle.cml_hub.specs.declared.done.Done.{Done}
use Rattle.cml_hub.specs.Dones.{DoneFits, Settles, children}

-- the machine, once it was answered
pub record TakesAnswer (old : PlainMachine) (answer : PlainAnswer) (new : PlainMachine) : Type 0 where
  pub thread : new.thread ≡ old.thread
  pub meant : (p : List (PlainItem ℕ)) → Fits p old → machine_term p new ≡ after_answer (text_of p) answer (machine_term p old)
  pub fits : (p : List (PlainItem ℕ)) → Fits p old → answer_agrees (arities p) answer ≡ true → Fits p new
  pub awaits : (p : List (PlainItem ℕ)) → Fits p old → top_await (machine_term p old) ≡ answer_for answer → top_await (machine_term p new) ≡ nothing

-- under each program that it fits, the machine is settled as its ask was done
abbrev pub SettlesAll : PlainMachine → Done → PlainMachine → Type 0
SettlesAll end d new =
    (p : List (PlainItem ℕ)) (a : PlainAsk) → Fits p end → top_await (machine_term p end) ≡ await_of a → DoneFits p a end d → Settles p a end d new

-- the machines, in which that of thread t was settled, with those of threads that begin after the others
pub record AllSettled (old : List PlainMachine) (t : ℕ) (end : PlainMachine) (d : Done) (new : List PlainMachine) : Type 0 where
  pub machine : PlainMachine
  pub settled : SettlesAll end d machine
  pub is : new ≡ slice_set old t machine ++ children d

-- the thread is there, and its machine waits for the commit
abbrev pub Resumes : List PlainMachine → PlainResume → Type 0
Resumes ms r = (m : PlainMachine) × (slice_get ms r.thread ≡ Some m) × Awaits m (a_commit r.value r.wraps)

-- the machines, in which the thread goes on from its row
pub record Resumed (old : List PlainMachine) (r : PlainResume) (new : List PlainMachine) : Type 0 where
  pub before : PlainMachine
  pub after : PlainMachine
  pub was : slice_get old r.thread ≡ Some before
  pub is : new ≡ slice_set old r.thread after
  pub answered : TakesAnswer before (a_commit r.value r.wraps) after

abbrev pub PartnerResumed : List PlainMachine → Option PlainResume → List PlainMachine → Type 0
PartnerResumed old None new = new ≡ old
PartnerResumed old (Some r) new = Resumed old r new

-- the machines, in which both parties of a row go on, the head first
pub record AllResumed (old : List PlainMachine) (c : Committed) (new : List PlainMachine) : Type 0 where
  pub between : List PlainMachine
  pub head : Resumed old c.head between
  pub partner : PartnerResumed between c.partner new

-- both parties can go on, one after the other
abbrev pub PartnerResumes : List PlainMachine → PlainResume → Option PlainResume → Type 0
PartnerResumes ms head None = Unit {0}
PartnerResumes ms head (Some r) = (new : List PlainMachine) → Resumed ms head new → Resumes new r

abbrev pub AllResume : List PlainMachine → Committed → Type 0
AllResume ms c = Resumes ms c.head × PartnerResumes ms c.head c.partner
