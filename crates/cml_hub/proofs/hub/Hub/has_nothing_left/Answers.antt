use Rattle.std.proofs.Common.{◌≡◌, ◌&&◌, ◌∙◌}
use Rattle.cml_scan.specs.Scan.{scan}
use Rattle.cml_hub.specs.Runs.{is_empty}
use Rattle.cml_hub.proofs.Deciding.{idle_is, terminal_then, terminal_else}
use Rattle.cml_hub.proofs.hub.Hub.has_nothing_left.Goals.{then-is_idle, else-is_idle}
use Rattle.cml_hub.proofs.hub.Hub.has_nothing_left.Goals as goal

pub returns-then-is_still : goal.returns-then-is_still
returns-then-is_still c =
    let s = c.self.inside in
    let w = s.course.world in
    let idle = idle_is w.threads s.marks.marks c.is_idle.result c.self.invariant.placed c.is_idle.ensures in
    let both : c.if-is_idle.value ≡ (c.is_idle.result && is_empty (scan w)) = elim c.if-is_idle.branch [
      | then-is_idle v ↦ rw (v.if-is_idle.true) (v.value-is ∙ v.is_still.ensures)
      | else-is_idle v
          ↦ rw (v.if-is_idle.false) (v.value-is ∙ v.if-is_idle.false)
    ] in
    rw (← c.self.view_is) (terminal_then w c.is_idle.result c.if-is_idle.value c.is_none.result c.next_alarm.result idle both c.if-is_still.true c.next_alarm.ensures c.is_none.ensures)

pub returns-else-is_still : goal.returns-else-is_still
returns-else-is_still c =
    let s = c.self.inside in
    let w = s.course.world in
    let idle = idle_is w.threads s.marks.marks c.is_idle.result c.self.invariant.placed c.is_idle.ensures in
    let both : c.if-is_idle.value ≡ (c.is_idle.result && is_empty (scan w)) = elim c.if-is_idle.branch [
      | then-is_idle v ↦ rw (v.if-is_idle.true) (v.value-is ∙ v.is_still.ensures)
      | else-is_idle v
          ↦ rw (v.if-is_idle.false) (v.value-is ∙ v.if-is_idle.false)
    ] in
    rw (← c.self.view_is) (terminal_else w c.is_idle.result c.if-is_idle.value idle both c.if-is_still.false)
