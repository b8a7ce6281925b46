use Rattle.cml_properties.proofs.LawLemmas.{agree_by_a_third}
use Rattle.cml_properties.proofs.law.agree_by_a_third.Goals as goal

pub returns : goal.returns
returns c = agree_by_a_third
