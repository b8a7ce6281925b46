use Rattle.cml_text.proofs.RoundLemmas.{printed_is_read}
use Rattle.cml_text.proofs.law.printed_is_read.Goals as goal

pub returns : goal.returns
returns c = printed_is_read
