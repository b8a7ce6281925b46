use Rattle.std.proofs.Common.{◌≡◌, true, map, take}
use Rattle.cml_objects.specs.declared.pairing.PairedId.{PairedId}
use Rattle.cml_index.specs.Slots.{slot_in}
use Rattle.cml_index.specs.Live as spec
use Rattle.cml_index.proofs.live.Live.make_all.Given as goal

-- the objects so far have a place
abbrev pub invariant-loop-wait : goal.invariant-loop-wait
invariant-loop-wait l = record {
  same : spec.IsAsLive l.fn.self l.self;
  there : (n : PairedId) → spec.have_side n (take l.wait-index (map slot_in l.waits)) ≡ true → spec.HasPlace l.self n;
}
