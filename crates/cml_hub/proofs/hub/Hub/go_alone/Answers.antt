use Rattle.std.proofs.Common.{◌≡◌, false, sym, ◌∙◌, Some, None}
use Rattle.std.specs.Prelude.{slice_get}
use Rattle.cml_schedule.specs.declared.item.Item.TheVariants.{Turn}
use Rattle.cml_hub.specs.Runs.{terminal}
use Rattle.cml_hub.specs.Kept.{AllOut}
use Rattle.cml_hub.proofs.Placing.{ready_runs, none_ready_all_out, alone_moved}
use Rattle.cml_hub.proofs.Onward.{if_ok, thread_going, none_back}
use Rattle.cml_hub.proofs.Played.{turn_goes, moved_goes}
use Rattle.cml_hub.proofs.hub.Hub.go_alone.Goals as goal

pub turn-requires-clause-running : goal.turn-requires-clause-running
turn-requires-clause-running g c =
    let s = c.self.inside in
    rw (← c.self.view_is) (ready_runs s.course.world.threads s.marks.marks c.in-Some.thread.0 c.self.invariant.placed c.in-Some.ensures.ready)

pub move_on-requires-clause-all_out : goal.move_on-requires-clause-all_out
move_on-requires-clause-all_out g c =
    let s = c.self.inside in
    rw (← c.self.view_is) (none_ready_all_out s.course.world.threads s.marks.marks c.self.invariant.placed c.in_default.ensures.ready)

pub returns-in-Some-clause-ok : goal.returns-in-Some-clause-ok
returns-in-Some-clause-ok g c =
    let s = c.self.inside in
    let old = c.args.self.now in
    let going : terminal old.course.world ≡ false =
    rw (← c.self.view_is) (thread_going s.course.world c.in-Some.thread.0 (ready_runs s.course.world.threads s.marks.marks c.in-Some.thread.0 c.self.invariant.placed c.in-Some.ensures.ready)) in (
      going,
      record {
        item = Turn c.in-Some.thread;
        tells = tt;
        moves = c.in_ok-turn.ensures.moves;
        none_out = none_back old.out c.turn.new.self.out c.in-Some.thread.0 c.in_ok-turn.ensures.back c.requires.none_out;
      },
    )

pub returns-clause-ok : goal.returns-clause-ok
returns-clause-ok g c =
    let s = c.self.inside in
    let old = c.args.self.now in
    let all_out : AllOut old =
    rw (← c.self.view_is) (none_ready_all_out s.course.world.threads s.marks.marks c.self.invariant.placed c.in_default.ensures.ready) in
    if_ok c.move_on.result c.move_on.ensures.ok (λ moved m. alone_moved old c.move_on.new.self moved c.requires.none_out all_out m)

pub returns-in-Some-clause-plays : goal.returns-in-Some-clause-plays
returns-in-Some-clause-plays g c =
    let old = c.args.self.now in
    let first : Some c.in-Some.thread ≡ slice_get old.queue 0 = rw (← c.self.view_is) (sym c.in-Some.is ∙ c.front.ensures.first) in
    turn_goes (record { picks = g.C.Chooser.picks; next = g.C.Chooser.next }) old c.turn.new.self c.args.chooser.now c.in-Some.thread first c.in_ok-turn.ensures.moves c.in_ok-turn.ensures.queue

pub returns-clause-plays : goal.returns-clause-plays
returns-clause-plays g c =
    let old = c.args.self.now in
    let first : None ≡ slice_get old.queue 0 = rw (← c.self.view_is) (sym c.in_default.is ∙ c.front.ensures.first) in
    if_ok c.move_on.result c.move_on.ensures.plays (λ moved m.
    moved_goes (record { picks = g.C.Chooser.picks; next = g.C.Chooser.next }) old c.move_on.new.self c.args.chooser.now c.move_on.new.chooser moved first m)
