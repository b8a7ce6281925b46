use Rattle.cml_trace.proofs.KeywordLemmas.{spelling_names_keyword}
use Rattle.cml_trace.proofs.law.spelling_names_keyword.Goals as goal

pub returns : goal.returns
returns c = spelling_names_keyword
