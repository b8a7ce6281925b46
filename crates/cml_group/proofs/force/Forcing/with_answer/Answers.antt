use Rattle.std.proofs.Common.{ap, sym, ◌∙◌}
use Rattle.cml_value.specs.Limits.{event_fits}
use Rattle.cml_group.specs.Frames.{plug}
use Rattle.cml_group.proofs.Asked.{part_put, put}
use Rattle.cml_group.proofs.force.Forcing.with_answer.Goals as goal

pub next_room-room-requires-clause-fits : goal.next_room-room-requires-clause-fits
next_room-room-requires-clause-fits c =
    let whole = put c.self.inside.part c.args.answer.now _ c.self.view_is ∙ ap (part_put c.args.answer.now) c.in-Open.is in
    ap event_fits (c.in_ok-part.ensures ∙ ap (λ l. plug l c.args.answer.now) c.deref.ensures.value ∙ sym whole) ∙ c.requires.fits

pub next_room-room-requires-clause-left : goal.next_room-room-requires-clause-left
next_room-room-requires-clause-left c =
    let whole = put c.self.inside.part c.args.answer.now _ c.self.view_is ∙ ap (part_put c.args.answer.now) c.in-Open.is in
    rw (c.in_ok-part.ensures ∙ ap (λ l. plug l c.args.answer.now) c.deref.ensures.value ∙ sym whole) c.requires.left

pub returns : goal.returns
returns c =
    let whole = put c.self.inside.part c.args.answer.now _ c.self.view_is ∙ ap (part_put c.args.answer.now) c.in-Open.is in
    c.in_ok-part.ensures ∙ ap (λ l. plug l c.args.answer.now) c.deref.ensures.value ∙ sym whole
