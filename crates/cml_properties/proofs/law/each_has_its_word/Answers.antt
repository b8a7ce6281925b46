use Rattle.cml_properties.proofs.LawLemmas.{each_has_its_word}
use Rattle.cml_properties.proofs.law.each_has_its_word.Goals as goal

pub returns : goal.returns
returns c = each_has_its_word
