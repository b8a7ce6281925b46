use Rattle.cml_text.proofs.LineLemmas.{written_line_is_first}
use Rattle.cml_text.proofs.law.written_line_is_first.Goals as goal

pub returns : goal.returns
returns c = written_line_is_first
