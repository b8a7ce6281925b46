use Rattle.cml_group.proofs.Places.{other_scopes}
use Rattle.cml_group.proofs.law.other_scopes_fire.Goals as goal

pub returns : goal.returns
returns c = other_scopes
