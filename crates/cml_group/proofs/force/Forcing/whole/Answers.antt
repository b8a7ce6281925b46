use Rattle.std.proofs.Common.{ap, sym, ◌∙◌}
use Rattle.cml_group.specs.FrameViews.{plain_part}
use Rattle.cml_group.proofs.Asked.{part_ask, asked}
use Rattle.cml_group.proofs.force.Forcing.whole.Goals as goal

pub returns-in-Whole : goal.returns-in-Whole
returns-in-Whole c = (asked c.self.inside.part _ c.self.view_is ∙ ap part_ask c.in-Whole.is, sym (ap plain_part c.in-Whole.is) ∙ c.self.view_is)

pub returns-in-Open : goal.returns-in-Open
returns-in-Open c = λ none.
    let asks = asked c.self.inside.part _ c.self.view_is ∙ ap part_ask c.in-Open.is in
    absurd (cc)
