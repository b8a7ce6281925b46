use Rattle.std.proofs.Common.{◌≡◌, true, take}
use Rattle.cml_scan.specs.Order.{Every}
use Rattle.cml_scan.specs.declared.object.Light.{Light}
use Rattle.cml_index.specs.declared.slot.Slot.{Slot}
use Rattle.cml_index.specs.Posts as spec
use Rattle.cml_index.proofs.nacks.reserve_nacks.Given as goal

-- the nacks so far have their places
abbrev pub invariant-loop-nack : goal.invariant-loop-nack
invariant-loop-nack l = record {
  told : (m : Light) → spec.told l.flags.entries m ≡ spec.told l.fn.flags.entries m;
  there : Every (λ k. spec.is_named l.flags.entries (spec.slot_of_nack k)) (take l.nack-index l.nacks);
  kept : (k : Slot) → spec.is_named l.fn.flags.entries k ≡ true → spec.is_named l.flags.entries k ≡ true;
}
