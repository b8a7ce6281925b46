-- How a book does what a thread asks.
use Rattle.std.specs.Prelude.{◌≡◌, ℕ, true, List, Result, Ok, Err}
use Rattle.std.specs.String.{string_bytes}
use Rattle.cml_scan.specs.World.{PlainWorld}
use Rattle.cml_check.specs.InOrder.{arities}
use Rattle.cml_check.specs.Syntax.{PlainItem}
use Rattle.cml_step.specs.Agrees.{ask_agrees}
use Rattle.cml_step.specs.Answers.{top_await, await_of}
use Rattle.cml_step.specs.Asks.{PlainAsk}
use Rattle.cml_step.specs.Machines.{PlainMachine, machine_term, Fits}
use Rattle.cml_book.specs.Outcomes.{Outcome}
use Rattle.cml_book.specs.declared.refusal.Fault.{Fault}
use Rattle.cml_book.specs.declared.refusal.Fault.TheVariants.{Refused, Memory}
use Rattle.cml_hub.specs.declared.done.Done.{Done}
use Rattle.cml_hub.specs.declared.done.Prepared.{Prepared}
use Rattle.cml_hub.specs.Performed.{PlainDone, performed}
use Rattle.cml_hub.specs.Runs.{output_of}
use Rattle.cml_hub.specs.Dones.{plain_done, told_ahead, DoneFits}

-- The machine has come to this ask: it waits for what answers it, and both agree with the program.
pub record HasAsked (p : List (PlainItem ℕ)) (end : PlainMachine) (a : PlainAsk) : Type 0 where
  pub fits : Fits p end
  pub awaits : top_await (machine_term p end) ≡ await_of a
  pub agrees : ask_agrees (arities p) a ≡ true

-- the ask is done; or it is refused, or memory ran out, and nothing changes
abbrev pub Performs : PlainAsk → Result Done Fault → Outcome PlainDone → PlainWorld → PlainWorld → Type 0
Performs a (Ok d) outcome old new = outcome ≡ Ok (new, plain_done a d)
Performs a (Err (Refused why)) outcome old new = (outcome ≡ Err why) × (new ≡ old)
Performs a (Err Memory) outcome old new = new ≡ old

-- what is known of an ask that was done: that it fits the machine, and what it adds to the output
pub record IsDone (p : List (PlainItem ℕ)) (t : ℕ) (a : PlainAsk) (end : PlainMachine) (d : Done) : Type 0 where
  pub fits : DoneFits p a end d
  pub told : output_of t (plain_done a d) ≡ told_ahead t a

-- the same once the ask's line for the output is made: the ask is done, or refused, and then the thread has ended
pub record IsPrepared (p : List (PlainItem ℕ)) (t : ℕ) (a : PlainAsk) (end : PlainMachine) (old new : PlainWorld) (r : Prepared) : Type 0 where
  pub performed : performed old t a ≡ (new, plain_done a r.done)
  pub fits : DoneFits p a end r.done
  pub line : string_bytes r.line ≡ output_of t (plain_done a r.done)
