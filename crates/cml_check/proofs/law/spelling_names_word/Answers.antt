use Rattle.cml_check.proofs.WordLemmas.{spelling_names_word}
use Rattle.cml_check.proofs.law.spelling_names_word.Goals as goal

pub returns : goal.returns
returns c = spelling_names_word
