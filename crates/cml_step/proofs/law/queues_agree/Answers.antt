use Rattle.std.proofs.lemmas.Bool.{and_parts}
use Rattle.cml_step.specs.Agrees.{value_agrees, all_agree}
use Rattle.cml_step.proofs.LeafLemmas.{values_push}
use Rattle.cml_step.proofs.law.queues_agree.Goals as goal

pub returns-clause-added : goal.returns-clause-added
returns-clause-added c = values_push

pub returns-clause-taken : goal.returns-clause-taken
returns-clause-taken c ns v vs h = and_parts (value_agrees ns v) (all_agree ns vs) h
