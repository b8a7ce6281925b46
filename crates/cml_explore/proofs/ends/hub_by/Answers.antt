use Rattle.std.proofs.Common.{◌∙◌}
use Rattle.cml_explore.proofs.ends.hub_by.Goals as goal

pub returns-in-Ok : goal.returns-in-Ok
returns-in-Ok c = record { program = c.in-Ok.ensures.program ∙ c.in_ok-again.ensures; items_are = c.in-Ok.ensures.items_are }
