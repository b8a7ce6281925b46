use Rattle.cml_text.proofs.OneLineLemmas.{printed_line_is_one_line}
use Rattle.cml_text.proofs.law.printed_line_is_one_line.Goals as goal

pub returns : goal.returns
returns c = printed_line_is_one_line
