use Rattle.cml_host.proofs.OnwardLemmas.{told_again}
use Rattle.cml_host.proofs.law.what_is_recorded_is_told_again.Goals as goal

pub returns : goal.returns
returns c = told_again
