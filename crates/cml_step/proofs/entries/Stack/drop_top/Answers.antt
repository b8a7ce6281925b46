use Rattle.std.proofs.Common.{sym, ◌∙◌}
use Rattle.cml_step.specs.Shared.{topped, called}
use Rattle.cml_step.proofs.StackLemmas.{dropped_lifted}
use Rattle.cml_step.proofs.entries.Stack.drop_top.Goals as goal

pub returns-then-is_some : goal.returns-then-is_some
returns-then-is_some c =
    dropped_lifted c.self.inside.below c.self.inside.call c.self.inside.over c.args.self.now (topped (called c.lift.new.below c.lift.new.call) c.lift.new.over) c.lift.result c.self.view_is
    (sym c.is_some.ensures ∙ c.if-is_some.true) (sym c.is_some-then-is_some.ensures ∙ c.if-is_some-2.false) c.lift.ensures.same
