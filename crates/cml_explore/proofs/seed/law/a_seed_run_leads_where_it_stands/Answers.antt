use Rattle.cml_explore.proofs.SeedLemmas.{seed_runs_lead}
use Rattle.cml_explore.proofs.seed.law.a_seed_run_leads_where_it_stands.Goals as goal

pub returns : goal.returns
returns c = seed_runs_lead
