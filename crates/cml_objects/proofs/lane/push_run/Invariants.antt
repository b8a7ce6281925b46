use Rattle.std.proofs.Common.{◌≡◌, ◌+◌, ◌++◌, drop, vec_len}
use Rattle.std.specs.Vec.{vec_capacity}
use Rattle.cml_objects.specs.Lanes as spec
use Rattle.cml_objects.proofs.lane.push_run.Given as goal

-- what was put there, and what is left, are the whole run
abbrev pub invariant-loop-leaf : goal.invariant-loop-leaf
invariant-loop-leaf l = record {
  items : l.places.items ++ spec.run l.tid (drop l.leaf-index l.leaves) ≡ l.fn.places.items ++ spec.run l.tid l.leaves;
  len : vec_len l.places ≡ vec_len l.fn.places + l.leaf-index;
  capacity : vec_capacity l.places ≡ vec_capacity l.fn.places;
}
