use Rattle.std.proofs.Common.{subst}
use Rattle.rand_pcg.specs.Lcg.{Lcg}
use Rattle.cml_hub.specs.Playing.{PlaysOut}
use Rattle.cml_explore.specs.Generators.{by_generator}
use Rattle.cml_explore.proofs.seed.run.run_out.Goals as goal

pub returns : goal.returns
returns c = record {
  program = c.run_alone.ensures.more.program;
  budget_is = c.run_alone.ensures.more.budget;
  plays = (
    c.run_alone.new.chooser,
    subst (λ (s : Lcg). PlaysOut by_generator c.args.hub.now s c.run_alone.new.self c.run_alone.new.chooser) c.new-chooser.ensures c.in_ok-run_alone.ensures.plays,
  );
}
