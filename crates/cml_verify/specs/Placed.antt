-- Where the threads of a program can stand.
use Rattle.std.specs.Prelude.{◌≡◌, ◌≢◌, ℕ, ◌-◌, ◌≤◌, List, length, Some, slice_get, ◌⊎◌}
use Rattle.std.specs.List.{All}
use Rattle.cml_check.specs.Syntax.{PlainItem, no_stmts}
use Rattle.cml_check.specs.Layout.{left}
use Rattle.cml_step.specs.Machines.{PlainHeld, call, PlainMachine}

-- a place of the function: its beginning, or the one after a place at which a statement stands
abbrev pub IsPlaceOf : PlainItem ℕ → ℕ → Type 0
IsPlaceOf f at = (at ≡ 0) ⊎ (left f.body (at - 1) ≢ no_stmts)

-- a call stands at a place of one of the functions, and has values for no more names than that declares
abbrev pub IsHeldIn : List (PlainItem ℕ) → PlainHeld → Type 0
IsHeldIn p (call n at slots w) = (f : PlainItem ℕ) × (slice_get p n ≡ Some f) × IsPlaceOf f at × (length slots ≤ length f.names)
IsHeldIn p h = Unit {0}

-- the machine of the thread of this number stands in the program
pub record IsThreadIn (p : List (PlainItem ℕ)) (thread : ℕ) (m : PlainMachine) : Type 0 where
  pub number : m.thread ≡ thread
  pub entries : All (IsHeldIn p) m.stack

abbrev pub AreThreadsIn : List (PlainItem ℕ) → List PlainMachine → Type 0
AreThreadsIn p machines = (t : ℕ) (m : PlainMachine) → slice_get machines t ≡ Some m → IsThreadIn p t m
