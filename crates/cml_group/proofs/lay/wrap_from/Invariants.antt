use Rattle.std.proofs.Common.{◌≡◌, ◌++◌, map, take, drop, length}
use Rattle.cml_value.specs.Group.{wrapped_by}
use Rattle.cml_group.proofs.lay.wrap_from.Given as goal

-- the leaves so far, and the rest under the wrap, are what the leaves become
abbrev pub invariant-loop-i : goal.invariant-loop-i
invariant-loop-i l =
    (take l.i l.leaves.items ++ map (wrapped_by l.function) (drop l.i l.leaves.items)
    ≡ take l.first l.initial.leaves.items ++ map (wrapped_by l.function) (drop l.first l.initial.leaves.items))
    × (length l.leaves.items ≡ length l.initial.leaves.items)
