use Rattle.cml_hub.specs.Trails.{course_of}
use Rattle.cml_hub.specs.Courses.{PlainCourse}
use Rattle.cml_hub.proofs.Ours.{stands_there, numbered_there}
use Rattle.cml_hub.proofs.course.Course.machine_of.Goals as goal

pub returns-clause-stands : goal.returns-clause-stands
returns-clause-stands c =
    let s = c.self.inside in
    let k : PlainCourse = course_of s.program s.threads s.trail in
    let there = rw c.as_slice.ensures.value at c.machine_at.ensures in
    rw (← c.self.view_is) (λ t run. stands_there k c.args.thread.0 t c.machine_at.result c.self.invariant.0 there run)

pub returns-clause-thread : goal.returns-clause-thread
returns-clause-thread c =
    let s = c.self.inside in
    let k : PlainCourse = course_of s.program s.threads s.trail in
    let there = rw c.as_slice.ensures.value at c.machine_at.ensures in
    numbered_there k c.args.thread.0 c.machine_at.result c.self.invariant.0 there
