use Rattle.std.proofs.Common.{ap, subst, take, Option, ℕ, ◌∙◌}
use Rattle.cml_step.specs.Calls.{text_of}
use Rattle.cml_judge.specs.Stops.{StopsAfter}
use Rattle.cml_judge.proofs.stop.stopped_hub.Goals as goal

pub returns-in_ok-other-in-Some : goal.returns-in_ok-other-in-Some
returns-in_ok-other-in-Some c =
    let h = c.args.hub.now in
    let made = c.in_ok-other-in-Some.ensures in (
      c.in-Some.count,
      record {
        stops = subst (λ (found : Option ℕ). StopsAfter c.args.properties.now (text_of h.course.program) h.course.items found) c.in-Some.is c.in_ok-count.ensures;
        program = made.program;
        budget = made.budget_is;
        items = made.items_are ∙ ap (λ items. take c.in-Some.count items) c.schedule-items.ensures.items;
      },
    )
