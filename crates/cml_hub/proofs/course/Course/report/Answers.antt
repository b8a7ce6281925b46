use Rattle.std.proofs.Common.{◌∙◌}
use Rattle.cml_hub.proofs.course.Course.report.Goals as goal

pub returns : goal.returns
returns c =
    rw (← c.self.view_is) (rw (c.in_ok-rows.ensures ∙ c.table.ensures.rows, c.in_ok-waiting.ensures) at c.in_ok-new.ensures.ok)
