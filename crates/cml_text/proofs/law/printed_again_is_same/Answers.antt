use Rattle.cml_text.proofs.WithinLemmas.{printed_again_is_same}
use Rattle.cml_text.proofs.law.printed_again_is_same.Goals as goal

pub returns : goal.returns
returns c = printed_again_is_same
