use Rattle.std.proofs.Common.{◌≡◌, ◌≤◌, ◌++◌, drop, filter, length}
use Rattle.std.specs.Vec.{vec_capacity}
use Rattle.cml_value.specs.Group.{lies_outside, nacks_of}
use Rattle.cml_group.specs.Leaves.{numbers}
use Rattle.cml_group.proofs.flat.fill.Given as goal

-- the nacks found so far and those of the rest are those of all, and there is room for the rest
abbrev pub invariant-loop-branch : goal.invariant-loop-branch
invariant-loop-branch l =
    (numbers l.nacks.items ++ nacks_of (filter (lies_outside l.leaf) (drop l.branch-index l.branches)) ≡ nacks_of (filter (lies_outside l.leaf) l.branches))
    × (length l.nacks.items ≤ l.branch-index)
    × (length l.branches ≤ vec_capacity l.nacks)
