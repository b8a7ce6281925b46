use Rattle.std.proofs.Common.{◌≡◌, length}
use Rattle.cml_step.specs.Shared.{left_of}
use Rattle.cml_verify.specs.Digests.{stack_mixed}
use Rattle.cml_verify.proofs.digest.with_stack.Given as goal

abbrev pub invariant-loop-entry : goal.invariant-loop-entry
invariant-loop-entry l = stack_mixed l.all (left_of l.left) ≡ stack_mixed l.fn.digest (left_of l.fn.entries)

abbrev pub decreases-loop-entry : goal.decreases-loop-entry
decreases-loop-entry l = length (left_of l.left)
