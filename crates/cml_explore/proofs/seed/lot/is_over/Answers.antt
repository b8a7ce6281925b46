use Rattle.cml_hub.specs.Courses.{run_of}
use Rattle.cml_explore.proofs.DrawLemmas.{quiet_over, budget_over, partial_over}
use Rattle.cml_explore.proofs.seed.lot.is_over.Goals as goal

pub returns-in-Quiet : goal.returns-in-Quiet
returns-in-Quiet c = quiet_over c.args.hub.now.budget (run_of c.args.hub.now.course) c.in-Quiet.ensures

pub returns-in-Budget : goal.returns-in-Budget
returns-in-Budget c = budget_over c.args.hub.now.budget (run_of c.args.hub.now.course) c.in-Budget.ensures

pub returns-in-Partial : goal.returns-in-Partial
returns-in-Partial c = partial_over c.args.hub.now.budget (run_of c.args.hub.now.course) c.in-Partial.ensures
