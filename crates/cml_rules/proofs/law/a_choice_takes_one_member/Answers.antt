use Rattle.cml_rules.proofs.Choosing.{choice_takes_one}
use Rattle.cml_rules.proofs.law.a_choice_takes_one_member.Goals as goal

pub returns : goal.returns
returns c = choice_takes_one
