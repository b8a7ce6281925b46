use Rattle.std.proofs.Common.{length}
use Rattle.std.specs.List.{All}
use Rattle.cml_step.specs.Shared.{left_of}
use Rattle.cml_verify.specs.Placed.{IsHeldIn}
use Rattle.cml_verify.proofs.placed.are_entries_of.Given as goal

abbrev pub invariant-loop-entry : goal.invariant-loop-entry
invariant-loop-entry l = All (IsHeldIn l.program) (left_of l.left) → All (IsHeldIn l.program) (left_of l.fn.entries)

abbrev pub decreases-loop-entry : goal.decreases-loop-entry
decreases-loop-entry l = length (left_of l.left)
