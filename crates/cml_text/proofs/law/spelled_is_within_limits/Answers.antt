use Rattle.cml_text.proofs.WithinLemmas.{spelled_is_within_limits}
use Rattle.cml_text.proofs.law.spelled_is_within_limits.Goals as goal

pub returns : goal.returns
returns c = spelled_is_within_limits
