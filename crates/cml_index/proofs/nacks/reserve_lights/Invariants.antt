use Rattle.std.proofs.Common.{◌≡◌, true, take}
use Rattle.cml_scan.specs.Order.{Every}
use Rattle.cml_scan.specs.declared.object.Light.{Light}
use Rattle.cml_index.specs.declared.slot.Slot.{Slot}
use Rattle.cml_index.specs.declared.slot.Slot.TheVariants.{Waiters}
use Rattle.cml_index.specs.Posts as spec
use Rattle.cml_index.proofs.nacks.reserve_lights.Given as goal

-- the lights so far have their places
abbrev pub invariant-loop-light : goal.invariant-loop-light
invariant-loop-light l = record {
  told : (m : Light) → spec.told l.flags.entries m ≡ spec.told l.fn.flags.entries m;
  there : Every (λ m. spec.is_named l.flags.entries (Waiters m)) (take l.light-index l.lights);
  kept : (k : Slot) → spec.is_named l.fn.flags.entries k ≡ true → spec.is_named l.flags.entries k ≡ true;
}
