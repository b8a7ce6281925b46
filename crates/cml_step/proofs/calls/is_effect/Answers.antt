use Rattle.std.proofs.Common.{refl}
use Rattle.cml_check.specs.StmtViews.{plain_effect}
use Rattle.cml_step.proofs.calls.is_effect.Goals as goal

pub returns-in-Effect : goal.returns-in-Effect
returns-in-Effect c = λ yes. (plain_effect c.in-Effect.field-0, rw c.in-Effect.is refl)
