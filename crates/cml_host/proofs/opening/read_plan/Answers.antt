use Rattle.cml_schedule.specs.declared.line.State.TheVariants.{Opening}
use Rattle.cml_text.specs.Lines.{lines}
use Rattle.cml_host.proofs.BudgetLemmas.{plan_bounds}
use Rattle.cml_host.proofs.opening.read_plan.Goals as goal

pub returns-in-Ok-clause-budget : goal.returns-in-Ok-clause-budget
returns-in-Ok-clause-budget c = plan_bounds 1 Opening (lines c.args.text.now) c.in-Ok.plan tt c.in-Ok.ensures.1
