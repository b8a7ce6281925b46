use Rattle.std.proofs.Common.{◌+◌, ◌-◌, ℕ, slice_get, length}
use Rattle.cml_index.specs.Stands as spec
use Rattle.cml_index.proofs.stand.make_more.Given as goal

-- what is made is empty
abbrev pub invariant-loop-alloc : goal.invariant-loop-alloc
invariant-loop-alloc l = (i : ℕ) → spec.IsAlike (slice_get l.row.items i) (slice_get l.fn.row.items i)

abbrev pub decreases-loop-alloc : goal.decreases-loop-alloc
decreases-loop-alloc l = l.number + 1 - length l.row.items
