use Rattle.cml_text.proofs.GrammarFindLemmas.{spells_by_the_grammar}
use Rattle.cml_text.proofs.law.spells_by_the_grammar.Goals as goal

pub returns : goal.returns
returns c = spells_by_the_grammar
