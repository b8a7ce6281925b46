use Rattle.std.proofs.Common.{◌≡◌, length, refl, sym, ◌∙◌}
use Rattle.std.proofs.lemmas.List.{append-nil}
use Rattle.cml_hub.specs.declared.ready_queue.Mark.TheVariants.{Ready, NotRunning}
use Rattle.cml_hub.proofs.Standing.{set_again}
use Rattle.cml_hub.proofs.Marking.{there_away, pushed_away, set_pushed, marks_length}
use Rattle.cml_hub.specs.ReadyQueue.{left_by}
use Rattle.cml_hub.proofs.Played.{two_last}
use Rattle.cml_hub.proofs.hub.place.Goals as goal

pub make_ready-requires-clause-away : goal.make_ready-requires-clause-away
make_ready-requires-clause-away c =
    let ms = c.args.marks.now.marks in
    let t = c.args.thread.0 in
    rw (c.set_not_running.ensures.marks) (there_away ms t c.requires.there)

pub add-requires-clause-next : goal.add-requires-clause-next
add-requires-clause-next c =
    let ms = c.args.marks.now.marks in
    let t = c.args.thread.0 in
    let next : c.in-With.child.0 ≡ length ms = rw (c.in-With.is) at c.requires.next in
    rw (c.set_not_running.ensures.marks) (next ∙ sym (marks_length ms t NotRunning))

pub make_ready-requires-in-With-clause-away : goal.make_ready-requires-in-With-clause-away
make_ready-requires-in-With-clause-away c =
    let ms = c.args.marks.now.marks in
    let t = c.args.thread.0 in
    rw (c.add.ensures.marks, c.set_not_running.ensures.marks) (pushed_away ms t c.requires.there)

pub returns-in-On-clause-marks : goal.returns-in-On-clause-marks
returns-in-On-clause-marks c =
    let ms = c.args.marks.now.marks in
    let t = c.args.thread.0 in
    rw (c.in-On.is, c.make_ready.ensures.marks, c.set_not_running.ensures.marks) (set_again ms t NotRunning Ready)

pub returns-in-With-clause-marks : goal.returns-in-With-clause-marks
returns-in-With-clause-marks c =
    let ms = c.args.marks.now.marks in
    let t = c.args.thread.0 in
    rw (c.in-With.is, c.make_ready-in-With.ensures.marks, c.add.ensures.marks, c.set_not_running.ensures.marks) (set_pushed ms t c.requires.there)

pub returns-in-Off-clause-marks : goal.returns-in-Off-clause-marks
returns-in-Off-clause-marks c =
    rw (c.in-Off.is, c.set_not_running.ensures.marks) refl

pub returns-in-On-clause-queue : goal.returns-in-On-clause-queue
returns-in-On-clause-queue c =
    rw (c.in-On.is, c.make_ready.ensures.queue, c.set_not_running.ensures.queue) refl

pub returns-in-With-clause-queue : goal.returns-in-With-clause-queue
returns-in-With-clause-queue c =
    rw (c.in-With.is, c.make_ready-in-With.ensures.queue, c.add.ensures.queue, c.set_not_running.ensures.queue)
    (two_last (left_by c.args.thread.0 c.args.marks.now.queue) c.in-With.child c.args.thread)

pub returns-in-Off-clause-queue : goal.returns-in-Off-clause-queue
returns-in-Off-clause-queue c =
    rw (c.in-Off.is, c.set_not_running.ensures.queue) (sym (append-nil (left_by c.args.thread.0 c.args.marks.now.queue)))
