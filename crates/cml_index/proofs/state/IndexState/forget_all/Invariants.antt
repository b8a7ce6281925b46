use Rattle.std.proofs.Common.{◌≡◌}
use Rattle.cml_scan.specs.declared.object.Light.{Light}
use Rattle.cml_index.specs.Posts as spec
use Rattle.cml_index.specs.Cores.{IsIndexed, IsAtRest}
use Rattle.cml_index.proofs.state.IndexState.forget_all.Given as goal

-- nothing was told
abbrev pub invariant-loop-light : goal.invariant-loop-light
invariant-loop-light l = record {
  told : (m : Light) → spec.told l.self.flags.entries m ≡ spec.told l.fn.self.flags.entries m;
  indexed : IsIndexed l.self;
  idle : IsAtRest l.self;
  entries : l.self.entries ≡ l.fn.self.entries;
  leaves : l.self.leaves ≡ l.fn.self.leaves;
}
