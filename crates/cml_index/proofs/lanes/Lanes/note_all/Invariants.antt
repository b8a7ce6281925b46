use Rattle.std.proofs.Common.{◌≡◌, ◌≤◌, ◌++◌, length, map, drop}
use Rattle.cml_index.specs.declared.slot.Slot.{Slot}
use Rattle.cml_index.specs.Slots as spec
use Rattle.cml_index.specs.Slots.{slot_in}
use Rattle.cml_index.proofs.lanes.Lanes.note_all.Given as goal

-- the leaves so far are to come, and those that are left are the others
abbrev pub invariant-loop-leaf : goal.invariant-loop-leaf
invariant-loop-leaf l = record {
  same : (k : Slot) → spec.lane_at l.self k ≡ spec.lane_at l.fn.self k;
  going : (k : Slot) → spec.going_at l.self k ≡ spec.going_at l.fn.self k;
  kept : (k : Slot) → spec.room_at l.fn.self k ≤ spec.room_at l.self k;
  late : (k : Slot) → spec.late_at l.self k ++ spec.slot_leaves k l.leaf (drop l.leaf (map slot_in l.waits)) ≡ spec.slot_leaves k 0 (map slot_in l.waits);
  room : (k : Slot) → length (spec.late_at l.self k) ≤ spec.room_at l.self k;
}
