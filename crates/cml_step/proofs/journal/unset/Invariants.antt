use Rattle.std.proofs.Common.{◌≡◌, vec_len}
use Rattle.cml_step.specs.Undone.{unset}
use Rattle.cml_step.proofs.journal.unset.Given as goal

-- what is left to undo comes to the same
abbrev pub invariant-loop-noted : goal.invariant-loop-noted
invariant-loop-noted l = unset l.sets.items l.slots.items ≡ unset l.fn.sets.items l.fn.slots.items

abbrev pub decreases-loop-noted : goal.decreases-loop-noted
decreases-loop-noted l = vec_len l.sets
