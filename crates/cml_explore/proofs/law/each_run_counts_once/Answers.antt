use Rattle.cml_explore.proofs.LawLemmas.{counts_each_once}
use Rattle.cml_explore.proofs.law.each_run_counts_once.Goals as goal

pub returns : goal.returns
returns c = counts_each_once
