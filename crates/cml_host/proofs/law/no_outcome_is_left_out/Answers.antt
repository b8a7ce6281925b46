use Rattle.cml_host.proofs.LawLemmas.{none_left_out}
use Rattle.cml_host.proofs.law.no_outcome_is_left_out.Goals as goal

pub returns : goal.returns
returns c = none_left_out
