use Rattle.std.proofs.Common.{◌≡◌, ◌≤◌, ◌++◌, drop, length}
use Rattle.std.specs.Vec.{vec_capacity}
use Rattle.cml_value.specs.Group.{nacks_of}
use Rattle.cml_group.specs.Leaves.{numbers}
use Rattle.cml_group.proofs.flat.nacks_in.Given as goal

-- the nacks so far and those of the rest are all of them, and there is room for the rest
abbrev pub invariant-loop-branch : goal.invariant-loop-branch
invariant-loop-branch l =
    (numbers l.nacks.items ++ nacks_of (drop l.branch-index l.branches) ≡ nacks_of l.branches)
    × (length l.nacks.items ≤ l.branch-index)
    × (length l.branches ≤ vec_capacity l.nacks)
