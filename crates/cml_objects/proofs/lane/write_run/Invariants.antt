use Rattle.std.proofs.Common.{◌≡◌, ◌≤◌, ◌+◌, ◌++◌, drop, length}
use Rattle.cml_objects.specs.Lanes as spec
use Rattle.cml_objects.proofs.lane.write_run.Given as goal

-- what was written, and what stood after it, stand in order
abbrev pub invariant-loop-left : goal.invariant-loop-left
invariant-loop-left l = record {
  within : l.left ≤ length l.leaves;
  len : length l.places ≡ length l.fn.places;
  items : drop (l.at + l.left) l.places ≡ spec.run l.tid (drop l.left l.leaves) ++ drop (l.at + length l.leaves) l.fn.places;
}

abbrev pub decreases-loop-left : goal.decreases-loop-left
decreases-loop-left l = l.left
