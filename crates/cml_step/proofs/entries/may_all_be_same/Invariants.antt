use Rattle.std.proofs.Common.{◌≡◌, length}
use Rattle.cml_step.specs.Shared.{left_of}
use Rattle.cml_step.proofs.entries.may_all_be_same.Given as goal

-- where the stacks are the same, so is what is left of them
abbrev pub invariant-loop-entry : goal.invariant-loop-entry
invariant-loop-entry l = left_of l.fn.entries ≡ left_of l.fn.others → left_of l.entries ≡ left_of l.others

abbrev pub decreases-loop-entry : goal.decreases-loop-entry
decreases-loop-entry l = length (left_of l.entries)
