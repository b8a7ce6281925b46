use Rattle.cml_text.proofs.OneLineLemmas.{printed_line_is_read}
use Rattle.cml_text.proofs.law.printed_line_is_read.Goals as goal

pub returns : goal.returns
returns c = printed_line_is_read
