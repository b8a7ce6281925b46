use Rattle.cml_explore.proofs.SeedLemmas.{seed_runs_end}
use Rattle.cml_explore.proofs.seed.law.a_seed_run_is_over.Goals as goal

pub returns : goal.returns
returns c = seed_runs_end
