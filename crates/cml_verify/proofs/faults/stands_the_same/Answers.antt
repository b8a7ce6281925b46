use Rattle.std.proofs.Common.{sym, ◌∙◌}
use Rattle.cml_verify.proofs.faults.stands_the_same.Goals as goal

pub returns : goal.returns
returns c = λ yes. sym c.machine_at-first.ensures ∙ (c.are_the_same.ensures yes ∙ c.machine_at-second.ensures)
