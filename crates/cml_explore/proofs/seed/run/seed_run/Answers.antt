use Rattle.cml_explore.proofs.RunLemmas.{seed_ran}
use Rattle.cml_explore.proofs.seed.run.seed_run.Goals as goal

pub returns : goal.returns
returns c =
    seed_ran c.run_within.result c.args.program.now c.args.budget c.args.order c.args.seed c.in_ok-span.span c.in_ok-span.ensures.span c.run_within.ensures
