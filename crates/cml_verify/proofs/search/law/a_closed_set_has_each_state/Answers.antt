use Rattle.cml_verify.proofs.Closed.{all_are_seen}
use Rattle.cml_verify.proofs.search.law.a_closed_set_has_each_state.Goals as goal

pub returns : goal.returns
returns g c = all_are_seen
