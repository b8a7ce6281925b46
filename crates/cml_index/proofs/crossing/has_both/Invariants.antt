use Rattle.std.proofs.Common.{◌≡◌, false, map, take}
use Rattle.std.specs.List.{list_any}
use Rattle.cml_index.specs.Slots.{slot_in}
use Rattle.cml_index.specs.Crossing as spec
use Rattle.cml_index.proofs.crossing.has_both.Given as goal

-- none of the leaves so far
abbrev pub invariant-loop-wait : goal.invariant-loop-wait
invariant-loop-wait l = list_any (spec.meets_own (map slot_in l.waits)) (take l.wait-index (map slot_in l.waits)) ≡ false
