use Rattle.std.proofs.Common.{◌++◌, ◌∙◌, ap, map}
use Rattle.cml_hub.specs.ReadyQueue.{is_out}
use Rattle.cml_hub.specs.Kept.{Kept, NoneDue}
use Rattle.cml_hub.proofs.Marking.{out_met}
use Rattle.cml_hub.proofs.Keeping.{stands_met, away_met, moves_met}
use Rattle.cml_hub.specs.Playing.{parties}
use Rattle.cml_hub.proofs.hub.Hub.meet.Goals as goal

pub invariant_of-self : goal.invariant_of-self
invariant_of-self c =
    rw (c.reserve.ensures.marks, c.reserve.ensures.queue) c.self.invariant

pub meet-requires-clause-allowed : goal.meet-requires-clause-allowed
meet-requires-clause-allowed c =
    rw (← c.self.view_is) at c.requires.allowed

pub invariant_of-self-in_err-meet : goal.invariant_of-self-in_err-meet
invariant_of-self-in_err-meet c =
    rw (c.in_err-meet.ensures.err, c.reserve.ensures.marks, c.reserve.ensures.queue) c.self.invariant

pub place_all-requires-clause-away : goal.place_all-requires-clause-away
place_all-requires-clause-away c =
    let s = c.self.inside in
    let h : Kept = record { course = s.course; budget = s.budget; watch = s.watch; out = map is_out s.marks.marks; queue = s.marks.queue; reports = s.reports.items } in
    let meets = c.in_ok-meet.ensures.ok in
    let away = away_met h s.marks.marks c.args.item c.args.row c.meet.new.self c.self.invariant meets in
    rw (c.reserve.ensures.marks) away

pub place_all-requires-clause-room : goal.place_all-requires-clause-room
place_all-requires-clause-room c =
    c.in_ok-reserve.ensures.room

pub invariant_of-self-2 : goal.invariant_of-self-2
invariant_of-self-2 c =
    let s = c.self.inside in
    let h : Kept = record { course = s.course; budget = s.budget; watch = s.watch; out = map is_out s.marks.marks; queue = s.marks.queue; reports = s.reports.items } in
    let meets = c.in_ok-meet.ensures.ok in
    let none : NoneDue h = rw (← c.self.view_is) at c.requires.due in
    rw (c.place_all.ensures.marks, c.reserve.ensures.marks) (stands_met h s.marks.marks c.args.item c.args.row c.meet.new.self c.place_all.new.marks.queue c.self.invariant none meets)

pub returns-clause-moves : goal.returns-clause-moves
returns-clause-moves c =
    let s = c.self.inside in
    let h : Kept = record { course = s.course; budget = s.budget; watch = s.watch; out = map is_out s.marks.marks; queue = s.marks.queue; reports = s.reports.items } in
    let meets = c.in_ok-meet.ensures.ok in
    rw (← c.self.view_is) (moves_met h c.args.item c.args.row c.meet.new.self c.place_all.new.marks.marks c.place_all.new.marks.queue meets)

pub returns-clause-out : goal.returns-clause-out
returns-clause-out c =
    let s = c.self.inside in
    let h : Kept = record { course = s.course; budget = s.budget; watch = s.watch; out = map is_out s.marks.marks; queue = s.marks.queue; reports = s.reports.items } in
    let meets = c.in_ok-meet.ensures.ok in
    let away = away_met h s.marks.marks c.args.item c.args.row c.meet.new.self c.self.invariant meets in
    rw (← c.self.view_is, c.place_all.ensures.marks, c.reserve.ensures.marks) (out_met s.marks.marks c.args.row away)

pub returns-clause-queue : goal.returns-clause-queue
returns-clause-queue c =
    rw (← c.self.view_is) (c.place_all.ensures.queue ∙ ap (λ q. q ++ parties c.args.row) c.reserve.ensures.queue)
