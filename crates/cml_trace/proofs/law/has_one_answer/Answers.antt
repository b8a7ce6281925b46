use Rattle.cml_trace.proofs.OneAnswerLemmas.{has_one_answer}
use Rattle.cml_trace.proofs.law.has_one_answer.Goals as goal

pub returns : goal.returns
returns c = has_one_answer c.spelled_or_faulty.ensures c.spells_one_at_most.ensures c.spelled_has_no_fault.ensures
