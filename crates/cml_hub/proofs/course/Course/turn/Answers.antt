use Rattle.std.proofs.Common.{arith, ◌≡◌, ◌<◌, length}
use Rattle.std.specs.Prelude.{slice_get, Some}
use Rattle.cml_scan.specs.World.{running}
use Rattle.cml_schedule.specs.Laws.{IsNumber}
use Rattle.cml_step.specs.AskViews.{plain_ask}
use Rattle.cml_hub.specs.Trails.{course_of}
use Rattle.cml_hub.proofs.Adding.{kept_course, kept_known, kept_used, kept_few, there_still, Added, added_leads, added_known, added_turns, turn_added, taken_settles}
use Rattle.cml_hub.proofs.DeedLemmas.{was_asked}
use Rattle.cml_hub.proofs.Onward.{on_err}
use Rattle.cml_hub.proofs.Ours.{machine_within, machine_goes}
use Rattle.cml_hub.proofs.course.Course.turn.Goals as goal

pub take_turn-requires-clause-there : goal.take_turn-requires-clause-there
take_turn-requires-clause-there c =
    let s = c.self.inside in
    machine_within (course_of s.program s.threads s.trail) c.args.thread.0 c.self.invariant.0 (rw (← c.self.view_is) at c.requires)

pub take_turn-requires-clause-goes : goal.take_turn-requires-clause-goes
take_turn-requires-clause-goes c = λ m is.
    let s = c.self.inside in
    machine_goes (course_of s.program s.threads s.trail) c.args.thread.0 m c.self.invariant.0
    (record { running = rw (← c.self.view_is) at c.requires; machine = is })

pub invariant_of-self : goal.invariant_of-self
invariant_of-self c =
    let s = c.self.inside in
    let same = c.in_err-made.ensures.err in (
      rw (same.1, kept_course s.program s.threads s.trail c.take_turn.new.self same.0) c.self.invariant.0,
      kept_known s.program s.trail c.take_turn.new.self s.trail.machines.items same.0 c.self.invariant.1,
    )

pub returns-in_err-made-clause-err : goal.returns-in_err-made-clause-err
returns-in_err-made-clause-err c =
    let s = c.self.inside in
    let same = c.in_err-made.ensures.err in
    let still : course_of s.program c.take_turn.new.book c.take_turn.new.self ≡ course_of s.program s.threads s.trail =
    rw same.1 (kept_course s.program s.threads s.trail c.take_turn.new.self same.0) in
    rw (← c.self.view_is) (on_err c.from_residual.result still)

pub add_turn-requires-clause-there : goal.add_turn-requires-clause-there
add_turn-requires-clause-there c =
    let s = c.self.inside in
    let taken = c.in_ok-made.ensures.taken in
    let lt = machine_within (course_of s.program s.threads s.trail) c.args.thread.0 c.self.invariant.0 (rw (← c.self.view_is) at c.requires) in
    there_still s.trail.machines.items c.take_turn.new.self.machines.items c.args.thread.0 taken.end taken.keeps.machines lt

pub add_turn-requires-clause-settles : goal.add_turn-requires-clause-settles
add_turn-requires-clause-settles c =
    let s = c.self.inside in
    let lt = machine_within (course_of s.program s.threads s.trail) c.args.thread.0 c.self.invariant.0 (rw (← c.self.view_is) at c.requires) in
    taken_settles s.program c.args.thread.0 (plain_ask c.take_turn.new.ask) s.trail s.threads c.in_ok-made.made c.take_turn.new.self c.take_turn.new.book
    lt c.in_ok-made.ensures.taken

pub add_turn-requires-clause-asked : goal.add_turn-requires-clause-asked
add_turn-requires-clause-asked c =
    was_asked c.self.inside.threads c.take_turn.new.book c.args.thread.0 (plain_ask c.take_turn.new.ask) c.in_ok-made.made.prepared.done
    c.in_ok-made.ensures.taken.done.performed

pub add_turn-requires-clause-used : goal.add_turn-requires-clause-used
add_turn-requires-clause-used c =
    let s = c.self.inside in
    let taken = c.in_ok-made.ensures.taken in
    kept_used s.program s.threads s.trail c.take_turn.new.self _ taken.keeps c.self.invariant.0

pub add_turn-requires-clause-few : goal.add_turn-requires-clause-few
add_turn-requires-clause-few c =
    let s = c.self.inside in
    let taken = c.in_ok-made.ensures.taken in
    kept_few s.program s.trail c.take_turn.new.self _ taken.keeps c.self.invariant.1

pub invariant_of-self-2 : goal.invariant_of-self-2
invariant_of-self-2 c =
    let s = c.self.inside in
    let run : slice_get s.threads.threads c.args.thread.0 ≡ Some running = rw (← c.self.view_is) at c.requires in
    let lt : c.args.thread.0 < length s.trail.machines.items = machine_within (course_of s.program s.threads s.trail) c.args.thread.0 c.self.invariant.0 run in
    let n : IsNumber c.args.thread.0 = omega arith in
    let added : Added s.program s.threads s.trail c.args.thread c.in_ok-made.made c.take_turn.new.book c.add_turn.new.self =
    turn_added s.program s.threads c.take_turn.new.book s.trail c.take_turn.new.self c.add_turn.new.self c.args.thread (plain_ask c.take_turn.new.ask)
    c.in_ok-made.made run lt c.in_ok-made.ensures.taken c.add_turn.ensures.adds in (
      added_leads s.program s.threads c.take_turn.new.book s.trail c.add_turn.new.self c.args.thread c.in_ok-made.made c.self.invariant.0 n added,
      added_known s.program s.threads c.take_turn.new.book s.trail c.add_turn.new.self c.args.thread c.in_ok-made.made c.self.invariant.0 c.self.invariant.1 added,
    )

pub returns-clause-ok : goal.returns-clause-ok
returns-clause-ok c =
    let s = c.self.inside in
    let run : slice_get s.threads.threads c.args.thread.0 ≡ Some running = rw (← c.self.view_is) at c.requires in
    let lt : c.args.thread.0 < length s.trail.machines.items = machine_within (course_of s.program s.threads s.trail) c.args.thread.0 c.self.invariant.0 run in
    let added : Added s.program s.threads s.trail c.args.thread c.in_ok-made.made c.take_turn.new.book c.add_turn.new.self =
    turn_added s.program s.threads c.take_turn.new.book s.trail c.take_turn.new.self c.add_turn.new.self c.args.thread (plain_ask c.take_turn.new.ask)
    c.in_ok-made.made run lt c.in_ok-made.ensures.taken c.add_turn.ensures.adds in
    rw (← c.self.view_is, c.add_turn.ensures.gone)
    (added_turns s.program s.threads c.take_turn.new.book s.trail c.add_turn.new.self c.args.thread c.in_ok-made.made c.self.invariant.0 added)
