use Rattle.std.proofs.Common.{arith}
use Rattle.cml_hub.specs.Trails.{course_of}
use Rattle.cml_hub.specs.Courses.{PlainCourse}
use Rattle.cml_hub.proofs.Ours.{machine_within, machine_keeps, machine_goes, machine_number}
use Rattle.cml_hub.proofs.course.Course.machine.Goals as goal

pub index-requires : goal.index-requires
index-requires c =
    let s = c.self.inside in
    let k : PlainCourse = course_of s.program s.threads s.trail in
    omega (arith, machine_within k c.args.thread.0 c.self.invariant.0 (rw (← c.self.view_is) at c.requires))

pub returns-clause-keeps : goal.returns-clause-keeps
returns-clause-keeps c =
    let s = c.self.inside in
    let k : PlainCourse = course_of s.program s.threads s.trail in
    rw (← c.self.view_is) (machine_keeps k c.args.thread.0 c.index.result.now c.self.invariant.0 (rw (← c.self.view_is) at c.requires) c.index.ensures)

pub returns-clause-stands : goal.returns-clause-stands
returns-clause-stands c =
    let s = c.self.inside in
    let k : PlainCourse = course_of s.program s.threads s.trail in
    rw (← c.self.view_is) (machine_goes k c.args.thread.0 c.index.result.now c.self.invariant.0
    (machine_keeps k c.args.thread.0 c.index.result.now c.self.invariant.0 (rw (← c.self.view_is) at c.requires)
    c.index.ensures))

pub returns-clause-thread : goal.returns-clause-thread
returns-clause-thread c =
    let s = c.self.inside in
    let k : PlainCourse = course_of s.program s.threads s.trail in
    machine_number k c.args.thread.0 c.index.result.now c.self.invariant.0 (machine_keeps k c.args.thread.0 c.index.result.now c.self.invariant.0 (rw (← c.self.view_is) at c.requires) c.index.ensures)
