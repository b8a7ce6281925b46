use Rattle.std.proofs.Common.{refl}
use Rattle.cml_step.specs.Calls.{text_of}
use Rattle.cml_schedule.specs.declared.item.Item.TheVariants.{Clock}
use Rattle.cml_hub.specs.Trails.{course_of}
use Rattle.cml_hub.specs.Courses.{PlainCourse, run_of}
use Rattle.cml_hub.proofs.DeedLemmas.{still_known}
use Rattle.cml_hub.proofs.Meeting.{ticked_leads}
use Rattle.cml_hub.proofs.Ticking.{clock_moves, clocked_is, clock_refused}
use Rattle.cml_hub.proofs.course.Course.tick.Goals as goal

pub invariant_of-self-in-Ok : goal.invariant_of-self-in-Ok
invariant_of-self-in-Ok c =
    let s = c.self.inside in
    let k : PlainCourse = course_of s.program s.threads s.trail in
    let ok = rw (← c.self.view_is) at c.requires in
    let moves = clock_moves s.threads c.args.tick ok c.self.invariant.0.agrees.soon in
    let world = clocked_is s.threads c.clock.new.self c.args.tick c.in-Ok.field-0 moves c.in-Ok.ensures in (
      rw (c.push_reserved.ensures.items, c.reserve.ensures.items, world) (ticked_leads k c.args.tick c.self.invariant.0 ok),
      rw (c.push_reserved.ensures.items, c.reserve.ensures.items)
          (still_known (text_of s.program) s.trail.items.items (Clock c.args.tick) (run_of k) s.trail.deeds.origins.items
          s.trail.deeds.faults c.self.invariant.0.leads refl c.self.invariant.1),
    )

pub unreachable-requires : goal.unreachable-requires
unreachable-requires c =
    let s = c.self.inside in
    let ok = rw (← c.self.view_is) at c.requires in
    let moves = clock_moves s.threads c.args.tick ok c.self.invariant.0.agrees.soon in
    let refused = rw c.in-Err-Refused.field-0-is at c.in-Err-Refused.ensures in
    clock_refused s.threads c.args.tick c.in-Err-Refused.field-0-0 moves refused.0
