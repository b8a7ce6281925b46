use Rattle.std.proofs.Common.{◌≡◌, ◌≤◌, ◌+◌, length, map, drop}
use Rattle.cml_index.specs.Slots as spec
use Rattle.cml_index.specs.Slots.{slot_in}
use Rattle.cml_index.proofs.slot.count_in.Given as goal

-- the leaves so far are counted
abbrev pub invariant-loop-wait : goal.invariant-loop-wait
invariant-loop-wait l = record {
  count : l.count + length (spec.slot_leaves l.slot l.wait-index (drop l.wait-index (map slot_in l.waits))) ≡ length (spec.slot_leaves l.slot 0 (map slot_in l.waits));
  few : l.count ≤ l.wait-index;
}
