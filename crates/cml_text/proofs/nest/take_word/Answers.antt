use Rattle.cml_text.proofs.NestLemmas.{takes_leaf}
use Rattle.cml_text.proofs.nest.take_word.Goals as goal

pub returns-in_ok-push-in-Leaf-clause-ok : goal.returns-in_ok-push-in-Leaf-clause-ok
returns-in_ok-push-in-Leaf-clause-ok c = rw c.in-Leaf.is (takes_leaf _ _ _ c.in-Leaf.form (rw c.in-Leaf.is at c.requires.leaf) c.in_ok-push-in-Leaf.ensures.items)
