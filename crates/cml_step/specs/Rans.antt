-- A slice that was run.
use Rattle.std.specs.Prelude.{◌≡◌, ◌≤◌, ℕ, List, true, refl}
use Rattle.std.specs.Coded.{Coded, code_by, coded×, coded_ℕ, coded_list}
use Rattle.cml_check.specs.Syntax.{PlainItem}
use Rattle.cml_check.specs.SyntaxCodes.{plain_item_code}
use Rattle.cml_check.specs.InOrder.{arities}
use Rattle.cml_step.specs.Agrees.{ask_agrees}
use Rattle.cml_step.specs.Answers.{top_await, await_of}
use Rattle.cml_step.specs.AskCodes.{ask_code}
use Rattle.cml_step.specs.Asks.{PlainAsk}
use Rattle.cml_step.specs.Calls.{text_of}
use Rattle.cml_step.specs.MachineCodes.{machine_code}
use Rattle.cml_step.specs.Machines.{PlainMachine, machine_term, Fits}
use Rattle.cml_step.specs.Slices.{max_steps, sliced}

-- the program, the machine at the start and at the end, what it asks there, and the number of steps
pub record PlainRan : Type 0 where
  pub program : List (PlainItem ℕ)
  pub start : PlainMachine
  pub end : PlainMachine
  pub ask : PlainAsk
  pub steps : ℕ

-- Where the slice ends, what it asks there and how many steps it took are what `sliced` gives for the program and the start. It took
-- at least one step and at most 1,000. The machine at the end is the same thread's and fits the program again; it waits for the answer to
-- what the slice asks, and that agrees with the program.
pub record IsSlice (r : PlainRan) : Type 0 where
  pub meant : sliced (text_of r.program) r.start.thread (machine_term r.program r.start) ≡ record { ask = r.ask; end = machine_term r.program r.end; steps = r.steps }
  pub some : 1 ≤ r.steps
  pub few : r.steps ≤ max_steps
  pub thread : r.end.thread ≡ r.start.thread
  pub fits : Fits r.program r.end
  pub awaits : top_await (machine_term r.program r.end) ≡ await_of r.ask
  pub agrees : ask_agrees (arities r.program) r.ask ≡ true

-- a code of it, as the toolchain asks for one
abbrev pub ran_code : Coded PlainRan
ran_code =
    code_by (List (PlainItem ℕ) × (PlainMachine × (PlainMachine × (PlainAsk × ℕ))))
    (coded× (coded_list plain_item_code) (coded× machine_code (coded× machine_code (coded× ask_code coded_ℕ))))
    (λ r. (r.program, (r.start, (r.end, (r.ask, r.steps)))))
    (λ t. record { program = t.0; start = t.1.0; end = t.1.1.0; ask = t.1.1.1.0; steps = t.1.1.1.1 }) (λ _. refl)
