-- When a machine waits for an answer.
use Rattle.std.specs.Prelude.{◌≡◌, ℕ, List}
use Rattle.cml_check.specs.Syntax.{PlainItem}
use Rattle.cml_step.specs.Asks.{PlainAnswer}
use Rattle.cml_step.specs.Answers.{top_await, answer_for}
use Rattle.cml_step.specs.Machines.{PlainMachine, machine_term, Fits}

-- there is a program that the machine fits, and under which its term waits for such an answer
abbrev pub Awaits : PlainMachine → PlainAnswer → Type 0
Awaits m answer = (p : List (PlainItem ℕ)) × Fits p m × (top_await (machine_term p m) ≡ answer_for answer)
