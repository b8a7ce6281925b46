use Rattle.std.proofs.Common.{inr, option_map}
use Rattle.cml_phrase.specs.Spots.{all_places}
use Rattle.cml_host.specs.Between.{between}
use Rattle.cml_host.specs.Replies.{passage}
use Rattle.cml_host.proofs.SteppedLemmas.{hub_held}
use Rattle.cml_host.proofs.step.step_hub.Goals as goal

pub returns-in-Ok-clause-stepped : goal.returns-in-Ok-clause-stepped
returns-in-Ok-clause-stepped g c =
    let input = between g.I.Read.remaining c.args.input.now c.hold.new.input in
    let output = passage g.O.Write.contents c.args.out.now c.hold.new.out in
    hub_held (all_places c.args.subject.now.text.items c.args.subject.now.forms.items) (option_map (λ name. name.now) c.args.save_as) c.args.hub.now c.hold.new.hub input output _
    c.requires.start.budget_is c.in-Ok.ensures.ok c.in-Ok.ensures.cause.0 c.in-Ok.ensures.cause.1 c.in-Ok.ensures.leads c.saved.ensures

pub returns-in-Err-clause-stepped : goal.returns-in-Err-clause-stepped
returns-in-Err-clause-stepped g c = inr (c.in-Err.why, c.in-Err.ensures.err, c.in-Err.ensures.cause, c.faulted.ensures)
