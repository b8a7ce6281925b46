use Rattle.std.proofs.Common.{length, map, drop}
use Rattle.cml_index.specs.declared.slot.Slot.{Slot}
use Rattle.cml_index.specs.Slots as spec
use Rattle.cml_index.specs.Slots.{slot_in}
use Rattle.cml_index.specs.Stands as stands
use Rattle.cml_index.proofs.Stood.{IsCountedTo}
use Rattle.cml_index.proofs.lanes.Lanes.count.Given as goal

-- the leaves so far are counted where their lanes were made
abbrev pub invariant-loop-wait : goal.invariant-loop-wait
invariant-loop-wait l = (k : Slot) → IsCountedTo (stands.stand_at l.fn.self k) (stands.stand_at l.self k) l.wait-index
    (length (spec.slot_leaves k l.wait-index (drop l.wait-index (map slot_in l.waits))))
    (length (spec.slot_leaves k 0 (map slot_in l.waits)))
