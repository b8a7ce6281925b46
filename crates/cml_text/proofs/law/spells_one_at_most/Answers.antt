use Rattle.cml_text.proofs.AnswerLemmas.{one_at_most}
use Rattle.cml_text.proofs.law.spells_one_at_most.Goals as goal

pub returns : goal.returns
returns c = one_at_most
