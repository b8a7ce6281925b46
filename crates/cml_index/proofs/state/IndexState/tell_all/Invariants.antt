use Rattle.std.proofs.Common.{◌≡◌, ◌≤◌, ◌+◌, true, if◌then◌else◌, take}
use Rattle.cml_scan.specs.declared.object.Light.{Light}
use Rattle.cml_scan.specs.Table.{has_light}
use Rattle.cml_index.specs.declared.slot.Slot.{Slot}
use Rattle.cml_index.specs.Posts as spec
use Rattle.cml_index.specs.Cores.{IsIndexed}
use Rattle.cml_index.proofs.state.IndexState.tell_all.Given as goal

-- it was told of the lights so far
abbrev pub invariant-loop-light : goal.invariant-loop-light
invariant-loop-light l = record {
  told : (m : Light) → spec.told l.self.flags.entries m ≡ (if has_light (take l.light-index l.lights) m then l.lit else spec.told l.fn.self.flags.entries m);
  indexed : IsIndexed l.self;
  entries : l.self.entries ≡ l.fn.self.entries;
  lanes : l.self.lanes ≡ l.fn.self.lanes;
  leaves : l.self.leaves ≡ l.fn.self.leaves;
  live : l.self.live ≡ l.fn.self.live;
  kept : (k : Slot) → spec.is_named l.fn.self.flags.entries k ≡ true → spec.is_named l.self.flags.entries k ≡ true;
  cost : l.tally ≤ l.fn.tally + l.light-index;
}
