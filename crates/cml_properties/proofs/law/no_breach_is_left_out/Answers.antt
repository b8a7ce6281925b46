use Rattle.cml_properties.proofs.LawLemmas.{no_breach_is_left_out}
use Rattle.cml_properties.proofs.law.no_breach_is_left_out.Goals as goal

pub returns : goal.returns
returns c = no_breach_is_left_out
