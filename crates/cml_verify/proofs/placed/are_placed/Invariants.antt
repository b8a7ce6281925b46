use Rattle.std.proofs.Common.{◌≡◌, ℕ, ◌<◌, Some, slice_get}
use Rattle.cml_step.specs.Machines.{PlainMachine}
use Rattle.cml_verify.specs.Placed.{IsThreadIn}
use Rattle.cml_verify.proofs.placed.are_placed.Given as goal

abbrev pub invariant-loop-t : goal.invariant-loop-t
invariant-loop-t l = (t : ℕ) → t < l.t → (m : PlainMachine) → slice_get l.machines t ≡ Some m → IsThreadIn l.program t m
