use Rattle.std.proofs.Common.{◌∙◌, sym, subst}
use Rattle.cml_hub.specs.Courses.{run_of}
use Rattle.cml_hub.specs.Moves.{HandedOut, LeavesFirst, MovedOn}
use Rattle.cml_hub.specs.Playing.{MovesBy, playing}
use Rattle.cml_hub.proofs.Played.{way_self, way_reported, way_same, way_moved, way_to, way_some, way_stays, way_handed}
use Rattle.cml_hub.proofs.Onward.{on_err}
use Rattle.cml_hub.proofs.Going.{below, extends_self, extends_reported, still_extends, going_still, job_extends, job_over, wait_hands, wait_over, move_smaller, moved_extends, moved_out}
use Rattle.cml_hub.proofs.hub.Hub.take.Goals as goal

pub returns-in_err-report-clause-more : goal.returns-in_err-report-clause-more
returns-in_err-report-clause-more g c = still_extends c.args.self.now c.args.self.now c.report.new.self (extends_self c.args.self.now) c.in_err-report.ensures.err

pub moves-init : goal.moves-init
moves-init g c =
    let r = c.in_ok-report.ensures.ok in
    record {
      more = extends_reported c.args.self.now c.args.self.now c.report.new.self (extends_self c.args.self.now) r;
      due = r.none_due;
      out = r.out;
      way = way_reported (record { picks = g.C.Chooser.picks; next = g.C.Chooser.next }) c.args.self.now c.args.self.now c.report.new.self
          (playing c.args.self.now c.args.chooser.now) c.args.chooser.now (way_self (record { picks = g.C.Chooser.picks; next = g.C.Chooser.next }) c.args.self.now c.args.chooser.now) r;
    }

pub returns-in-Some-clause-more : goal.returns-in-Some-clause-more
returns-in-Some-clause-more g c =
    let a = c.moves.self in
    let b = c.hand_out.new.self in
    let e = subst (λ o. HandedOut a o b) c.in-Some.is c.in_ok-machine.ensures.ok in
    job_extends c.args.self.now a b c.in-Some.machine c.moves.invariant.more e

pub returns-in-Some-clause-ended : goal.returns-in-Some-clause-ended
returns-in-Some-clause-ended g c =
    let a = c.moves.self in
    let b = c.hand_out.new.self in
    let e = subst (λ o. HandedOut a o b) c.in-Some.is c.in_ok-machine.ensures.ok in
    job_over a b c.in-Some.machine (sym c.moves-test.ensures.over) e

pub returns-then-not-branch-clause-next : goal.returns-then-not-branch-clause-next
returns-then-not-branch-clause-next g c =
    let a = c.moves.self in
    let b = c.hand_out.new.self in
    let d = c.move_on.new.self in
    let e = subst (λ o. HandedOut a o b) c.in_default.is c.in_ok-machine.ensures.ok in
    let m = subst (λ o. MovedOn b o d) c.if-not-branch.true c.in_ok-move_on.ensures.ok in
    wait_hands c.args.self.now a b d c.moves.invariant.out e (going_still a b e (sym c.moves-test.ensures.over)) m

pub returns-then-not-branch-clause-ended : goal.returns-then-not-branch-clause-ended
returns-then-not-branch-clause-ended g c =
    let a = c.moves.self in
    let b = c.hand_out.new.self in
    let d = c.move_on.new.self in
    let e = subst (λ o. HandedOut a o b) c.in_default.is c.in_ok-machine.ensures.ok in
    let m = subst (λ o. MovedOn b o d) c.if-not-branch.true c.in_ok-move_on.ensures.ok in
    wait_over a b d (sym c.moves-test.ensures.over) e m

pub moves-preserved : goal.moves-preserved
moves-preserved g c =
    let a = c.moves.self in
    let b = c.hand_out.new.self in
    let d = c.move_on.new.self in
    let e = subst (λ o. HandedOut a o b) c.in_default.is c.in_ok-machine.ensures.ok in
    let m = subst (λ o. MovedOn b o d) c.if-not-branch.false c.in_ok-move_on.ensures.ok in
    let r = c.in_ok-report-2.ensures.ok in
    let o = sym c.moves-test.ensures.over in
    let f = subst (λ o. LeavesFirst a.queue o b.queue) c.in_default.is c.in_ok-machine.ensures.first in
    let p = subst (λ o. MovesBy (record { picks = g.C.Chooser.picks; next = g.C.Chooser.next }) b c.moves.chooser o d c.move_on.new.chooser)
    c.if-not-branch.false c.in_ok-move_on.ensures.plays in
    record {
      more = extends_reported c.args.self.now d c.report-in-moves.new.self
          (moved_extends c.args.self.now a b d c.moves.invariant.more
          (record { leads = c.moves-test.ensures.leads; going = sym c.moves-test.ensures.over }) e m) r;
      due = r.none_due;
      out = r.out ∙ moved_out c.args.self.now a b d c.moves.invariant.out e m;
      way = way_reported (record { picks = g.C.Chooser.picks; next = g.C.Chooser.next }) c.args.self.now d c.report-in-moves.new.self
          (playing c.args.self.now c.args.chooser.now) c.move_on.new.chooser (way_moved (record { picks = g.C.Chooser.picks; next = g.C.Chooser.next }) c.args.self.now a b d
          (playing c.args.self.now c.args.chooser.now) c.moves.chooser c.move_on.new.chooser c.moves.invariant.way c.moves.invariant.more.continues o
          (below a.budget (run_of a.course) o) e f m p) r;
    }

pub returns-in_err-report-2-clause-more : goal.returns-in_err-report-2-clause-more
returns-in_err-report-2-clause-more g c =
    let a = c.moves.self in
    let b = c.hand_out.new.self in
    let d = c.move_on.new.self in
    let e = subst (λ o. HandedOut a o b) c.in_default.is c.in_ok-machine.ensures.ok in
    let m = subst (λ o. MovedOn b o d) c.if-not-branch.false c.in_ok-move_on.ensures.ok in
    still_extends c.args.self.now d c.report-in-moves.new.self
    (moved_extends c.args.self.now a b d c.moves.invariant.more
    (record { leads = c.moves-test.ensures.leads; going = sym c.moves-test.ensures.over }) e m)
    c.in_err-report-2.ensures.err

pub moves-smaller : goal.moves-smaller
moves-smaller g c =
    let a = c.moves.self in
    let b = c.hand_out.new.self in
    let d = c.move_on.new.self in
    let e = subst (λ o. HandedOut a o b) c.in_default.is c.in_ok-machine.ensures.ok in
    let m = subst (λ o. MovedOn b o d) c.if-not-branch.false c.in_ok-move_on.ensures.ok in
    move_smaller a b d c.report-in-moves.new.self (sym c.moves-test.ensures.over) e m c.in_ok-report-2.ensures.ok

pub returns-in_err-report-clause-so_far : goal.returns-in_err-report-clause-so_far
returns-in_err-report-clause-so_far g c =
    let h = c.args.self.now in
    on_err c.from_residual.result (way_some (record { picks = g.C.Chooser.picks; next = g.C.Chooser.next }) h c.report.new.self c.args.chooser.now c.args.chooser.now
    (way_same (record { picks = g.C.Chooser.picks; next = g.C.Chooser.next }) h h c.report.new.self (playing h c.args.chooser.now) c.args.chooser.now
    (way_self (record { picks = g.C.Chooser.picks; next = g.C.Chooser.next }) h c.args.chooser.now) c.in_err-report.ensures.err))

pub returns-in_err-machine-clause-so_far : goal.returns-in_err-machine-clause-so_far
returns-in_err-machine-clause-so_far g c =
    let h = c.args.self.now in
    on_err c.from_residual-in_err-machine.result (way_some (record { picks = g.C.Chooser.picks; next = g.C.Chooser.next }) h c.hand_out.new.self c.args.chooser.now c.moves.chooser
    (way_same (record { picks = g.C.Chooser.picks; next = g.C.Chooser.next }) h c.moves.self c.hand_out.new.self (playing h c.args.chooser.now) c.moves.chooser
    c.moves.invariant.way c.in_err-machine.ensures.err))

pub returns-in-Some-clause-plays : goal.returns-in-Some-clause-plays
returns-in-Some-clause-plays g c =
    let a = c.moves.self in
    let b = c.hand_out.new.self in
    let e = subst (λ o. HandedOut a o b) c.in-Some.is c.in_ok-machine.ensures.ok in
    let f = subst (λ o. LeavesFirst a.queue o b.queue) c.in-Some.is c.in_ok-machine.ensures.first in
    way_handed (record { picks = g.C.Chooser.picks; next = g.C.Chooser.next }) c.args.self.now a b c.args.chooser.now c.moves.chooser c.in-Some.machine c.moves.invariant.way e f

pub returns-in_err-move_on-clause-so_far : goal.returns-in_err-move_on-clause-so_far
returns-in_err-move_on-clause-so_far g c =
    let h = c.args.self.now in
    let a = c.moves.self in
    let b = c.hand_out.new.self in
    let e = subst (λ o. HandedOut a o b) c.in_default.is c.in_ok-machine.ensures.ok in
    on_err c.from_residual-in_err-move_on.result (way_some (record { picks = g.C.Chooser.picks; next = g.C.Chooser.next }) h c.move_on.new.self c.args.chooser.now c.moves.chooser
    (way_same (record { picks = g.C.Chooser.picks; next = g.C.Chooser.next }) h a c.move_on.new.self (playing h c.args.chooser.now) c.moves.chooser
    c.moves.invariant.way (c.in_err-move_on.ensures.err ∙ e.1)))

pub returns-then-not-branch-clause-plays : goal.returns-then-not-branch-clause-plays
returns-then-not-branch-clause-plays g c =
    let a = c.moves.self in
    let b = c.hand_out.new.self in
    let d = c.move_on.new.self in
    let e = subst (λ o. HandedOut a o b) c.in_default.is c.in_ok-machine.ensures.ok in
    let m = subst (λ o. MovedOn b o d) c.if-not-branch.true c.in_ok-move_on.ensures.ok in
    let p = subst (λ o. MovesBy (record { picks = g.C.Chooser.picks; next = g.C.Chooser.next }) b c.moves.chooser o d c.move_on.new.chooser)
    c.if-not-branch.true c.in_ok-move_on.ensures.plays in
    way_stays (record { picks = g.C.Chooser.picks; next = g.C.Chooser.next }) c.args.self.now a d c.args.chooser.now c.moves.chooser c.move_on.new.chooser c.moves.invariant.way (m.2 ∙ e.1) p

pub returns-in_err-report-2-clause-so_far : goal.returns-in_err-report-2-clause-so_far
returns-in_err-report-2-clause-so_far g c =
    let h = c.args.self.now in
    let a = c.moves.self in
    let b = c.hand_out.new.self in
    let d = c.move_on.new.self in
    let e = subst (λ o. HandedOut a o b) c.in_default.is c.in_ok-machine.ensures.ok in
    let m = subst (λ o. MovedOn b o d) c.if-not-branch.false c.in_ok-move_on.ensures.ok in
    let o = sym c.moves-test.ensures.over in
    let f = subst (λ o. LeavesFirst a.queue o b.queue) c.in_default.is c.in_ok-machine.ensures.first in
    let p = subst (λ o. MovesBy (record { picks = g.C.Chooser.picks; next = g.C.Chooser.next }) b c.moves.chooser o d c.move_on.new.chooser)
    c.if-not-branch.false c.in_ok-move_on.ensures.plays in
    let w = way_moved (record { picks = g.C.Chooser.picks; next = g.C.Chooser.next }) h a b d (playing h c.args.chooser.now) c.moves.chooser c.move_on.new.chooser
    c.moves.invariant.way c.moves.invariant.more.continues o (below a.budget (run_of a.course) o) e f m p in
    on_err c.from_residual-in_err-report-2.result (way_some (record { picks = g.C.Chooser.picks; next = g.C.Chooser.next }) h c.report-in-moves.new.self c.args.chooser.now c.move_on.new.chooser
    (way_same (record { picks = g.C.Chooser.picks; next = g.C.Chooser.next }) h d c.report-in-moves.new.self (playing h c.args.chooser.now) c.move_on.new.chooser w c.in_err-report-2.ensures.err))

pub returns-clause-plays : goal.returns-clause-plays
returns-clause-plays g c = way_to (record { picks = g.C.Chooser.picks; next = g.C.Chooser.next }) c.args.self.now c.moves.self c.args.chooser.now c.moves.chooser c.moves.invariant.way
