use Rattle.std.proofs.Common.{arith, ◌∙◌, sym, ap, ◌≡◌}
use Rattle.std.specs.Prelude.{slice_get, Some}
use Rattle.cml_scan.specs.World.{running}
use Rattle.cml_hub.specs.Trails.{course_of}
use Rattle.cml_hub.specs.Courses.{PlainCourse}
use Rattle.cml_hub.proofs.Ours.{running_is, machine_within, not_running_ours, current_ours}
use Rattle.cml_hub.proofs.course.Course.is_current.Goals as goal

pub returns-then-not-is_running : goal.returns-then-not-is_running
returns-then-not-is_running c =
    let s = c.self.inside in
    let k : PlainCourse = course_of s.program s.threads s.trail in
    let e : c.thread-thread.result.0 ≡ c.args.ran.now.start.thread = c.thread-thread.ensures ∙ ap (λ m. m.thread) c.start-start.ensures in
    rw (← c.self.view_is) (not_running_ours k c.args.ran.now c.thread-thread.result.0 c.is_running.result c.self.invariant.0 e c.is_running.ensures c.if-not-is_running.true)

pub index-requires : goal.index-requires
index-requires c =
    let s = c.self.inside in
    let k : PlainCourse = course_of s.program s.threads s.trail in
    let run : slice_get s.threads.threads c.thread-thread.result.0 ≡ Some running = running_is s.threads c.thread-thread.result.0 (sym c.is_running.ensures ∙ c.if-not-is_running.false) in
    omega (arith, machine_within k c.thread-thread.result.0 c.self.invariant.0 run)

pub returns : goal.returns
returns c =
    let s = c.self.inside in
    let k : PlainCourse = course_of s.program s.threads s.trail in
    let e : c.thread-thread.result.0 ≡ c.args.ran.now.start.thread = c.thread-thread.ensures ∙ ap (λ m. m.thread) c.start-start.ensures in
    let run : slice_get s.threads.threads c.thread-thread.result.0 ≡ Some running = running_is s.threads c.thread-thread.result.0 (sym c.is_running.ensures ∙ c.if-not-is_running.false) in
    let both = rw c.start-start.ensures at c.same.ensures in
    let program = rw (← c.self.view_is) at c.requires in
    rw (← c.self.view_is) (current_ours k c.args.ran.now c.thread-thread.result.0 c.index.result.now c.same.result c.self.invariant.0 e run c.index.ensures both program)
