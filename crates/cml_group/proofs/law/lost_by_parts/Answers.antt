use Rattle.cml_value.specs.Group.{groups}
use Rattle.cml_group.proofs.Lost.{lost_scope, lost_choice}
use Rattle.cml_group.proofs.law.lost_by_parts.Goals as goal

pub returns-clause-scope : goal.returns-clause-scope
returns-clause-scope c = lost_scope

pub returns-clause-choice : goal.returns-clause-choice
returns-clause-choice c = λ g gs n. lost_choice g (groups gs) n
