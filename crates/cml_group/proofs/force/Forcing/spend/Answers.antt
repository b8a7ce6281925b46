use Rattle.std.proofs.Common.{ap, sym, ◌∙◌}
use Rattle.cml_value.specs.Limits.{event_fits}
use Rattle.cml_group.specs.Frames.{plug}
use Rattle.cml_group.proofs.Asked.{part_ask, asked, part_put, put}
use Rattle.cml_group.proofs.force.Forcing.spend.Goals as goal

pub returns-in_default-clause-enough : goal.returns-in_default-clause-enough
returns-in_default-clause-enough c =
    let none = asked c.self.inside.part _ c.self.view_is ∙ ap part_ask c.in_default.is in
    let some = c.requires.1 in
    absurd (cc)

pub returns-clause-enough : goal.returns-clause-enough
returns-clause-enough c =
    let whole = put c.self.inside.part c.args.answer.now _ c.self.view_is ∙ ap (part_put c.args.answer.now) c.in-Open.is in
    c.spend_within.ensures.enough ∙ ap event_fits (ap (λ l. plug l c.args.answer.now) c.deref.ensures.value ∙ sym whole)

pub returns-clause-left : goal.returns-clause-left
returns-clause-left c =
    let whole = put c.self.inside.part c.args.answer.now _ c.self.view_is ∙ ap (part_put c.args.answer.now) c.in-Open.is in
    rw (whole ∙ ap (λ l. plug l c.args.answer.now) (sym c.deref.ensures.value)) c.spend_within.ensures.left
