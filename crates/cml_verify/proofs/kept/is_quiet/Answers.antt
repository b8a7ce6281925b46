use Rattle.std.proofs.Common.{sym, ◌∙◌}
use Rattle.std.specs.Prelude.{nat_le}
use Rattle.cml_hub.specs.Runs.{terminal}
use Rattle.cml_verify.proofs.Coming.{ends_quiet, ends_by_budget, ends_partly}
use Rattle.cml_verify.proofs.kept.is_quiet.Goals as goal

pub returns-in-Quiet : goal.returns-in-Quiet
returns-in-Quiet c = let h = c.args.hub.now in ends_quiet (terminal h.course.world) (nat_le h.budget h.course.used) (sym c.in-Quiet.is ∙ c.end.ensures)

pub returns-in-Budget : goal.returns-in-Budget
returns-in-Budget c = let h = c.args.hub.now in ends_by_budget (terminal h.course.world) (nat_le h.budget h.course.used) (sym c.in-Budget.is ∙ c.end.ensures)

pub returns-in-Partial : goal.returns-in-Partial
returns-in-Partial c = let h = c.args.hub.now in ends_partly (terminal h.course.world) (nat_le h.budget h.course.used) (sym c.in-Partial.is ∙ c.end.ensures)
