use Rattle.cml_step.proofs.QuickLemmas.{room_left}
use Rattle.cml_step.proofs.quick.room_above.Goals as goal

pub returns : goal.returns
returns c = λ below is. room_left _ c.args.beneath below c.saturating_sub.ensures is
