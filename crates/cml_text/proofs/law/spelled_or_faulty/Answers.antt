use Rattle.cml_text.proofs.WholeLemmas.{spelled_or_faulty}
use Rattle.cml_text.proofs.law.spelled_or_faulty.Goals as goal

pub returns : goal.returns
returns c = spelled_or_faulty
