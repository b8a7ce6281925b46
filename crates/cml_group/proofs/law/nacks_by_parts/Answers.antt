use Rattle.cml_group.proofs.Lost.{nacks_choice}
use Rattle.cml_group.proofs.law.nacks_by_parts.Goals as goal

pub returns-clause-choice : goal.returns-clause-choice
returns-clause-choice c = nacks_choice
