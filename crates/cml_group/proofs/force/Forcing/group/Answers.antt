use Rattle.std.proofs.Common.{ap, ◌∙◌}
use Rattle.cml_group.proofs.Asked.{part_ask, asked}
use Rattle.cml_group.proofs.force.Forcing.group.Goals as goal

pub returns-in-Open : goal.returns-in-Open
returns-in-Open c =
    let asks = asked c.self.inside.part _ c.self.view_is ∙ ap part_ask c.in-Open.is in
    let none = c.requires in
    absurd (cc)
