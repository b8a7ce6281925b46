-- Where the threads of a run stood that ended at faults.
use Rattle.std.specs.Prelude.{◌≡◌, ℕ, ◌==◌, if◌then◌else◌, List, [], ◌∷◌, Option, Some, None}
use Rattle.std.specs.Option.{option_or}
use Rattle.cml_check.specs.Syntax.{PlainItem}
use Rattle.cml_step.specs.Asks.{PlainAsk}
use Rattle.cml_step.specs.Calls.{text_of}
use Rattle.cml_step.specs.Machines.{PlainMachine, machine_term}
use Rattle.cml_schedule.specs.declared.item.Item.{Item}
use Rattle.cml_facts.specs.Failures.{Failure, failures}

-- a thread that ended at a fault: where it stood before its last step, and what it asked for by that
pub record PlainFall : Type 0 where
  pub machine : PlainMachine
  pub ask : PlainAsk

-- the failure, if it is one of this thread
abbrev pub failure_if_of : ℕ → Failure → Option Failure
failure_if_of t f = if f.thread == t then Some f else None

-- how the thread ended at a fault, if it did; it can do so only once
abbrev pub failure_of_thread : List Failure → ℕ → Option Failure
failure_of_thread [] t = None
failure_of_thread (f ∷ fs) t = option_or (failure_of_thread fs t) (failure_if_of t f)

-- this machine of the thread stands for where it stood, and that is what it asked for
pub record IsFall (p : List (PlainItem ℕ)) (f : Failure) (fall : PlainFall) : Type 0 where
  pub thread : fall.machine.thread ≡ f.thread
  pub stands : machine_term p fall.machine ≡ f.stood
  pub asked : fall.ask ≡ f.ask

-- there is a fall exactly where there is a failure, and it is the failure's
abbrev pub IsFallOf : List (PlainItem ℕ) → Option Failure → Option PlainFall → Type 0
IsFallOf p None None = Unit {0}
IsFallOf p None (Some fall) = ⊥
IsFallOf p (Some f) None = ⊥
IsFallOf p (Some f) (Some fall) = IsFall p f fall

-- These are the falls of the threads that ended at faults in a schedule, by the number of the thread.
pub record AreFalls (p : List (PlainItem ℕ)) (items : List Item) (falls : ℕ → Option PlainFall) : Type 0 where
  pub each : (t : ℕ) → IsFallOf p (failure_of_thread (failures (text_of p) items) t) (falls t)
