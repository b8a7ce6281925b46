use Rattle.cml_properties.proofs.OwnLemmas.{matches_itself}
use Rattle.cml_properties.proofs.law.matches_itself.Goals as goal

pub returns : goal.returns
returns c = matches_itself c.printed_line_is_read.ensures c.spells_one_at_most.ensures
