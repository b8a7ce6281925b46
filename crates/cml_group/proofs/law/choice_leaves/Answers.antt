use Rattle.cml_group.proofs.Lost.{leaves_choice}
use Rattle.cml_group.proofs.law.choice_leaves.Goals as goal

pub returns : goal.returns
returns c = leaves_choice
