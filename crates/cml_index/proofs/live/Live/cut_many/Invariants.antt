use Rattle.std.proofs.Common.{◌≡◌, true, false, map, drop}
use Rattle.cml_objects.specs.declared.pairing.PairedId.{PairedId}
use Rattle.cml_index.specs.Slots.{slot_in}
use Rattle.cml_index.specs.Live as spec
use Rattle.cml_index.proofs.live.Live.cut_many.Given as goal

-- the objects are right that no leaf touches that is left
abbrev pub invariant-loop-wait : goal.invariant-loop-wait
invariant-loop-wait l = record {
  was : (n : PairedId) → spec.have_side n (drop l.wait-index (map slot_in l.waits)) ≡ false → spec.is_in l.self n ≡ spec.is_live l.lanes n;
  over : (n : PairedId) → spec.is_live l.lanes n ≡ true → spec.is_in l.self n ≡ true;
  counted : (n : PairedId) → spec.have_side n (drop l.wait-index (map slot_in l.waits)) ≡ false → spec.HasItsCount l.lanes l.self n;
  places : (n : PairedId) → spec.HasPlace l.fn.self n → spec.HasPlace l.self n;
}
