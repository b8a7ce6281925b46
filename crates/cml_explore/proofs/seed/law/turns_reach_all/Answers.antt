use Rattle.cml_explore.proofs.ReachLemmas.{turns_reach_all}
use Rattle.cml_explore.proofs.seed.law.turns_reach_all.Goals as goal

pub returns : goal.returns
returns c = turns_reach_all
