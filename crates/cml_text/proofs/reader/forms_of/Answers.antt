use Rattle.std.proofs.Common.{rules}
use Rattle.cml_text.proofs.ReadLemmas.{read_all, read_unclosed}
use Rattle.cml_text.proofs.reader.forms_of.Goals as goal

pub returns-in-Some-pop-clause-err : goal.returns-in-Some-pop-clause-err
returns-in-Some-pop-clause-err c = read_unclosed _ _ _ _ _ c.in-Some-pop.list c.loop-rest.invariant.1 (search rules) c.in-Some-pop.ensures.items

pub returns-clause-words : goal.returns-clause-words
returns-clause-words c = (read_all _ _ _ _ c.loop-rest.invariant.1 (search rules) (search rules)).0

pub returns-clause-ok : goal.returns-clause-ok
returns-clause-ok c = (read_all _ _ _ _ c.loop-rest.invariant.1 (search rules) (search rules)).1
