use Rattle.std.proofs.Common.{◌≡◌, sym, ap, ◌∙◌}
use Rattle.cml_check.specs.Sizes.{size_of}
use Rattle.cml_schedule.specs.Written.{schedule_text}
use Rattle.cml_hub.specs.Kept.{Kept}
use Rattle.cml_hub.proofs.Written.{written}
use Rattle.cml_hub.proofs.hub.Hub.write_schedule.Goals as goal

pub returns-clause-read : goal.returns-clause-read
returns-clause-read c =
    let s = c.self.inside in
    let p : c.program.result.now ≡ s.course.program = c.program.ensures ∙ sym (ap (λ (x : Kept). x.course.program) c.self.view_is) in
    let t : c.into_bytes.result.items ≡ schedule_text s.budget c.size.result c.items.result.now = rw c.into_bytes.ensures.value c.in_ok-text.ensures in
    rw (← c.self.view_is) (written c.written_is_read.ensures c.into_bytes.result.items s.budget c.size.result s.course.items c.items.result.now s.course.program
    t c.items.ensures.items (c.size.ensures.size ∙ ap size_of p) c.size.ensures.limits c.self.invariant.budgeted c.items.ensures.writable)
