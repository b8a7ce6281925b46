use Rattle.std.proofs.Common.{ap, sym, ◌∙◌}
use Rattle.cml_step.specs.Machines.{plain_held}
use Rattle.cml_step.proofs.entries.is_call.Goals as goal

pub returns-in-Force : goal.returns-in-Force
returns-in-Force c = λ off call e. let n = ap plain_held (sym c.in-Force.is) ∙ e in cc

pub returns-in-Wraps : goal.returns-in-Wraps
returns-in-Wraps c = λ off call e. let n = ap plain_held (sym c.in-Wraps.is) ∙ e in cc
