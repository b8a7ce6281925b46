use Rattle.std.proofs.Common.{◌≡◌, ◌++◌, ◌∙◌, ap, map, Some}
use Rattle.std.specs.Prelude.{slice_get}
use Rattle.cml_scan.specs.World.{running}
use Rattle.cml_hub.specs.ReadyQueue.{is_out, left_by}
use Rattle.cml_hub.specs.Kept.{Kept, NoneDue}
use Rattle.cml_hub.proofs.Marking.{there_is, takes_back}
use Rattle.cml_hub.proofs.Keeping.{stands_turned, next_turned, moves_turned}
use Rattle.cml_hub.specs.Moves.{lines_up}
use Rattle.cml_hub.proofs.Played.{ready_turned}
use Rattle.cml_hub.proofs.hub.Hub.turn.Goals as goal

pub invariant_of-self : goal.invariant_of-self
invariant_of-self c =
    rw (c.reserve.ensures.marks, c.reserve.ensures.queue) c.self.invariant

pub turn-requires : goal.turn-requires
turn-requires c =
    rw (← c.self.view_is) at c.requires.running

pub invariant_of-self-in_err-gone : goal.invariant_of-self-in_err-gone
invariant_of-self-in_err-gone c =
    rw (c.in_err-gone.ensures.err, c.reserve.ensures.marks, c.reserve.ensures.queue) c.self.invariant

pub place-requires-clause-there : goal.place-requires-clause-there
place-requires-clause-there c =
    let s = c.self.inside in
    let run : slice_get s.course.world.threads c.args.thread.0 ≡ Some running = rw (← c.self.view_is) at c.requires.running in
    rw (c.reserve.ensures.marks) (there_is s.course.world.threads s.marks.marks c.args.thread.0 c.self.invariant.placed run)

pub place-requires-clause-next : goal.place-requires-clause-next
place-requires-clause-next c =
    let s = c.self.inside in
    let h : Kept = record { course = s.course; budget = s.budget; watch = s.watch; out = map is_out s.marks.marks; queue = s.marks.queue; reports = s.reports.items } in
    let turns = c.in_ok-gone.ensures.ok in
    rw (c.reserve.ensures.marks) (next_turned h s.marks.marks c.args.thread c.in_ok-gone.gone c.turn.new.self c.self.invariant turns)

pub place-requires-clause-room : goal.place-requires-clause-room
place-requires-clause-room c =
    c.in_ok-reserve.ensures.room

pub place-requires-clause-more : goal.place-requires-clause-more
place-requires-clause-more c =
    c.in_ok-reserve.ensures.more

pub invariant_of-self-2 : goal.invariant_of-self-2
invariant_of-self-2 c =
    let s = c.self.inside in
    let h : Kept = record { course = s.course; budget = s.budget; watch = s.watch; out = map is_out s.marks.marks; queue = s.marks.queue; reports = s.reports.items } in
    let turns = c.in_ok-gone.ensures.ok in
    let run : slice_get s.course.world.threads c.args.thread.0 ≡ Some running = rw (← c.self.view_is) at c.requires.running in
    let none : NoneDue h = rw (← c.self.view_is) at c.requires.due in
    rw (c.place.ensures.marks, c.reserve.ensures.marks) (stands_turned h s.marks.marks c.args.thread c.in_ok-gone.gone c.turn.new.self c.place.new.marks.queue c.self.invariant none run turns)

pub returns-clause-moves : goal.returns-clause-moves
returns-clause-moves c =
    let s = c.self.inside in
    let h : Kept = record { course = s.course; budget = s.budget; watch = s.watch; out = map is_out s.marks.marks; queue = s.marks.queue; reports = s.reports.items } in
    let turns = c.in_ok-gone.ensures.ok in
    rw (← c.self.view_is) (moves_turned h c.args.thread c.in_ok-gone.gone c.turn.new.self c.place.new.marks.marks c.place.new.marks.queue turns)

pub returns-clause-back : goal.returns-clause-back
returns-clause-back c =
    let s = c.self.inside in
    rw (← c.self.view_is, c.place.ensures.marks, c.reserve.ensures.marks) (takes_back s.marks.marks c.args.thread.0 c.in_ok-gone.gone)

pub returns-clause-queue : goal.returns-clause-queue
returns-clause-queue c =
    let s = c.self.inside in
    let run : slice_get s.course.world.threads c.args.thread.0 ≡ Some running = rw (← c.self.view_is) at c.requires.running in
    let ready = ready_turned s.course.world c.turn.new.self.world c.args.thread c.in_ok-gone.gone run c.in_ok-gone.ensures.ok.threads in
    rw (← c.self.view_is) (
    c.place.ensures.queue
    ∙ (ap (λ q. left_by c.args.thread.0 q ++ lines_up c.args.thread c.in_ok-gone.gone) c.reserve.ensures.queue
    ∙ ap (λ l. left_by c.args.thread.0 s.marks.queue ++ l) ready)
    )
