use Rattle.std.proofs.lemmas.Bool.{and_parts, and_from}
use Rattle.cml_step.specs.Agrees.{base_agrees, functions_agree}
use Rattle.cml_step.proofs.LeafLemmas.{leaf_of_group}
use Rattle.cml_step.proofs.law.leaves_agree.Goals as goal

pub returns-clause-leaves : goal.returns-clause-leaves
returns-clause-leaves c = leaf_of_group

pub returns-clause-answers : goal.returns-clause-answers
returns-clause-answers c ns l v h g = and_from _ _ g (and_parts (base_agrees ns l.base) (functions_agree ns l.wraps) h).1
