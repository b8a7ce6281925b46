use Rattle.cml_stepper.specs.Steppers.{places_known}
use Rattle.cml_stepper.proofs.QuestionLemmas.{ended_next, budget_next, partial_next}
use Rattle.cml_stepper.proofs.stepper.Stepper.next.Goals as goal

pub returns-in_ok-ending-in-Quiet : goal.returns-in_ok-ending-in-Quiet
returns-in_ok-ending-in-Quiet c = ended_next (places_known c.args.self.now) c.args.hub.now c.in_ok-ending-in-Quiet.ending c.in-Quiet.ensures c.in_ok-ending-in-Quiet.ensures

pub returns-in_ok-spent-in-Budget : goal.returns-in_ok-spent-in-Budget
returns-in_ok-spent-in-Budget c = budget_next (places_known c.args.self.now) c.args.hub.now c.in_ok-spent-in-Budget.spent c.in-Budget.ensures c.in_ok-spent-in-Budget.ensures

pub returns-in_ok-left-in-Partial : goal.returns-in_ok-left-in-Partial
returns-in_ok-left-in-Partial c = partial_next (places_known c.args.self.now) c.args.hub.now c.in_ok-left-in-Partial.left c.in-Partial.ensures c.in_ok-left-in-Partial.ensures
