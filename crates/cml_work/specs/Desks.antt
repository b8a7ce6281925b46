-- What is said of a desk.
use Rattle.std.specs.Prelude.{ℕ, ◌⊎◌, List}
use Rattle.cml_check.specs.Syntax.{PlainItem}
use Rattle.cml_step.specs.Machines.{PlainMachine}

-- Memory was wanted: for a job, and the desk found none; or by what was done with a job that it handed out.
abbrev pub WantedMemory : Type 0 → (List (PlainItem ℕ) → PlainMachine → Type 0) → Type 0
WantedMemory Lacks hands = Lacks ⊎ ((p : List (PlainItem ℕ)) × ((m : PlainMachine) × hands p m))
