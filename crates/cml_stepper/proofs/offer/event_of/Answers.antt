use Rattle.std.proofs.Common.{◌∙◌}
use Rattle.cml_facts.specs.Takes.{taker_in}
use Rattle.cml_facts.specs.Turns.{began_in}
use Rattle.cml_stepper.proofs.OfferLemmas.{told_of_nobody}
use Rattle.cml_stepper.proofs.offer.event_of.Goals as goal

pub returns : goal.returns
returns c =
    let course = c.args.hub.now.course in
    c.in_ok-event.ensures ∙ told_of_nobody course.world (began_in course) (taker_in c.new-takers.result) c.args.base.now c.new-takers.ensures
