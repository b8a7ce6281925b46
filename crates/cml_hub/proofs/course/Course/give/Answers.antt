use Rattle.std.proofs.Common.{arith, length, ap, refl}
use Rattle.cml_schedule.specs.Laws.{IsNumber}
use Rattle.cml_hub.specs.Courses.{PlainCourse, HasMachine, IsOurs}
use Rattle.cml_hub.specs.Trails.{course_of}
use Rattle.cml_hub.proofs.Adding.{kept_course, kept_known, kept_used, kept_few, Added, added_leads, added_known, added_turns, slice_added, slice_settles}
use Rattle.cml_hub.proofs.DeedLemmas.{was_asked}
use Rattle.cml_hub.proofs.Ours.{machine_within, ours_own}
use Rattle.cml_hub.proofs.course.Course.give.Goals as goal

pub take_slice-requires-clause-program : goal.take_slice-requires-clause-program
take_slice-requires-clause-program c =
    let s = c.self.inside in
    let ours : IsOurs (course_of s.program s.threads s.trail) c.args.ran = rw (← c.self.view_is) at c.requires in
    ours.0

pub take_slice-requires-clause-running : goal.take_slice-requires-clause-running
take_slice-requires-clause-running c =
    let s = c.self.inside in
    let ours : IsOurs (course_of s.program s.threads s.trail) c.args.ran = rw (← c.self.view_is) at c.requires in
    (ours_own (course_of s.program s.threads s.trail) c.args.ran c.self.invariant.0 ours).running

pub invariant_of-self-in-Err : goal.invariant_of-self-in-Err
invariant_of-self-in-Err c =
    let s = c.self.inside in (
      rw (c.in-Err.ensures.err, kept_course s.program s.threads s.trail c.take_slice.new.self c.take_slice.ensures.keeps) c.self.invariant.0,
      kept_known s.program s.trail c.take_slice.new.self s.trail.machines.items c.take_slice.ensures.keeps c.self.invariant.1,
    )

pub add_slice-requires-clause-there : goal.add_slice-requires-clause-there
add_slice-requires-clause-there c =
    let s = c.self.inside in
    let k : PlainCourse = course_of s.program s.threads s.trail in
    let ours : IsOurs k c.args.ran = rw (← c.self.view_is) at c.requires in
    let own : HasMachine k c.args.ran.start.thread c.args.ran.start = ours_own k c.args.ran c.self.invariant.0 ours in
    omega (arith, machine_within k c.args.ran.start.thread c.self.invariant.0 own.running, ap length c.take_slice.ensures.keeps.machines)

pub add_slice-requires-clause-settles : goal.add_slice-requires-clause-settles
add_slice-requires-clause-settles c =
    let s = c.self.inside in
    let ours : IsOurs (course_of s.program s.threads s.trail) c.args.ran = rw (← c.self.view_is) at c.requires in
    slice_settles s.program c.args.ran.start.thread s.threads c.take_slice.new.book c.args.ran c.in-Ok.made ours.0 c.in-Ok.ensures.slice c.in-Ok.ensures.done

pub add_slice-requires-clause-asked : goal.add_slice-requires-clause-asked
add_slice-requires-clause-asked c =
    was_asked c.self.inside.threads c.take_slice.new.book c.args.ran.start.thread c.args.ran.ask c.in-Ok.made.prepared.done c.in-Ok.ensures.done.performed

pub add_slice-requires-clause-used : goal.add_slice-requires-clause-used
add_slice-requires-clause-used c =
    let s = c.self.inside in
    kept_used s.program s.threads s.trail c.take_slice.new.self s.trail.machines.items c.take_slice.ensures.keeps c.self.invariant.0

pub add_slice-requires-clause-few : goal.add_slice-requires-clause-few
add_slice-requires-clause-few c =
    let s = c.self.inside in
    kept_few s.program s.trail c.take_slice.new.self s.trail.machines.items c.take_slice.ensures.keeps c.self.invariant.1

pub invariant_of-self : goal.invariant_of-self
invariant_of-self c =
    let s = c.self.inside in
    let k : PlainCourse = course_of s.program s.threads s.trail in
    let ran = c.args.ran in
    let thread = c.add_slice.result.0 in
    let ours : IsOurs k ran = rw (← c.self.view_is) at c.requires in
    let own : HasMachine k ran.start.thread ran.start = ours_own k ran c.self.invariant.0 ours in
    let n : IsNumber thread.0 = omega arith in
    let added : Added s.program s.threads s.trail thread c.in-Ok.made c.take_slice.new.book c.add_slice.new.self =
    slice_added s.program s.threads c.take_slice.new.book s.trail c.take_slice.new.self c.add_slice.new.self thread ran c.in-Ok.made
    c.add_slice.ensures.thread ours.0 own c.in-Ok.ensures.slice c.in-Ok.ensures.steps c.in-Ok.ensures.done c.take_slice.ensures.keeps c.add_slice.ensures.adds in (
      added_leads s.program s.threads c.take_slice.new.book s.trail c.add_slice.new.self thread c.in-Ok.made c.self.invariant.0 n added,
      added_known s.program s.threads c.take_slice.new.book s.trail c.add_slice.new.self thread c.in-Ok.made c.self.invariant.0 c.self.invariant.1 added,
    )

pub returns-in-Ok-clause-ok : goal.returns-in-Ok-clause-ok
returns-in-Ok-clause-ok c =
    let s = c.self.inside in
    let k : PlainCourse = course_of s.program s.threads s.trail in
    let ran = c.args.ran in
    let thread = c.add_slice.result.0 in
    let ours : IsOurs k ran = rw (← c.self.view_is) at c.requires in
    let own : HasMachine k ran.start.thread ran.start = ours_own k ran c.self.invariant.0 ours in
    let added : Added s.program s.threads s.trail thread c.in-Ok.made c.take_slice.new.book c.add_slice.new.self =
    slice_added s.program s.threads c.take_slice.new.book s.trail c.take_slice.new.self c.add_slice.new.self thread ran c.in-Ok.made
    c.add_slice.ensures.thread ours.0 own c.in-Ok.ensures.slice c.in-Ok.ensures.steps c.in-Ok.ensures.done c.take_slice.ensures.keeps c.add_slice.ensures.adds in
    let turns = added_turns s.program s.threads c.take_slice.new.book s.trail c.add_slice.new.self thread c.in-Ok.made c.self.invariant.0 added in
    (rw (← c.self.view_is, c.add_slice.ensures.gone) turns, c.add_slice.ensures.thread)

pub returns-in-Err-clause-err : goal.returns-in-Err-clause-err
returns-in-Err-clause-err c =
    let s = c.self.inside in
    (refl, rw (← c.self.view_is, c.in-Err.ensures.err) (kept_course s.program s.threads s.trail c.take_slice.new.self c.take_slice.ensures.keeps))
