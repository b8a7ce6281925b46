use Rattle.cml_text.proofs.AnswerLemmas.{spelled_no_fault}
use Rattle.cml_text.proofs.law.spelled_has_no_fault.Goals as goal

pub returns : goal.returns
returns c = spelled_no_fault
