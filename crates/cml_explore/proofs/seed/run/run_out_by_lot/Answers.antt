use Rattle.std.proofs.Common.{subst}
use Rattle.rand_pcg.specs.Lcg.{Lcg}
use Rattle.cml_explore.specs.Draws.{RunsDrawn}
use Rattle.cml_explore.specs.Generators.{by_generator}
use Rattle.cml_explore.specs.Lots.{by_lot}
use Rattle.cml_explore.proofs.seed.run.run_out_by_lot.Goals as goal

pub returns : goal.returns
returns c = record {
  program = c.in_ok-run_by_lot.ensures.program;
  budget_is = c.in_ok-run_by_lot.ensures.budget_is;
  plays = (
    c.run_by_lot.new.chooser,
    subst (λ (s : Lcg). RunsDrawn (by_lot by_generator) c.args.hub.now s c.run_by_lot.new.hub c.run_by_lot.new.chooser) c.new-chooser.ensures c.in_ok-run_by_lot.ensures,
  );
}
