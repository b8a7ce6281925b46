use Rattle.std.proofs.Common.{ap, ◌∙◌}
use Rattle.cml_group.proofs.Asked.{part_ask, asked}
use Rattle.cml_group.proofs.force.Forcing.finish.Goals as goal

pub returns : goal.returns
returns c =
    let asks = asked c.self.inside.part _ c.self.view_is ∙ ap part_ask c.in-Open.is in
    let none = c.requires in
    absurd (cc)
