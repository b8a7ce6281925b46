use Rattle.std.proofs.Common.{ap, ◌∙◌}
use Rattle.cml_group.proofs.Asked.{part_ask, asked}
use Rattle.cml_group.proofs.force.Forcing.next.Goals as goal

pub returns-in-Whole : goal.returns-in-Whole
returns-in-Whole c = asked c.self.inside.part _ c.self.view_is ∙ ap part_ask c.in-Whole.is

pub returns-in-Open : goal.returns-in-Open
returns-in-Open c = rw (asked c.self.inside.part _ c.self.view_is ∙ ap part_ask c.in-Open.is) c.next.ensures
