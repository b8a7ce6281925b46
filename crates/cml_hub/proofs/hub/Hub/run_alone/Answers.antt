use Rattle.std.proofs.Common.{inl, inr, sym, subst}
use Rattle.cml_hub.specs.Courses.{run_of}
use Rattle.cml_hub.specs.Moves.{GoesIfLeft}
use Rattle.cml_hub.specs.Playing.{GoesIfLeftBy, called_back}
use Rattle.cml_hub.proofs.Going.{alone_continues, continues_self, continues_called, continues_more}
use Rattle.cml_hub.proofs.Going.{continues_reported, still_continues, none_out_reported, none_out_same, below}
use Rattle.cml_hub.proofs.Going.{over_not, over_spent, over_quiet, quiet_over}
use Rattle.cml_hub.proofs.Played.{way_called, way_reported, way_more, way_on, way_out, way_quiet}
use Rattle.cml_hub.proofs.Onward.{on_err}
use Rattle.cml_hub.proofs.hub.Hub.run_alone.Goals as goal

pub returns-in_err-call_back-clause-more : goal.returns-in_err-call_back-clause-more
returns-in_err-call_back-clause-more g c = still_continues c.args.self.now c.args.self.now c.call_back.new.self (continues_self c.args.self.now) c.in_err-call_back.ensures.err

pub returns-in_err-report-clause-more : goal.returns-in_err-report-clause-more
returns-in_err-report-clause-more g c =
    still_continues c.args.self.now c.call_back.new.self c.report.new.self (continues_called c.args.self.now c.call_back.new.self c.in_ok-call_back.ensures.ok) c.in_err-report.ensures.err

pub turns-init : goal.turns-init
turns-init g c =
    let h = c.args.self.now in
    let a = c.call_back.new.self in
    let b = c.report.new.self in
    let k = c.in_ok-call_back.ensures.ok in
    let r = c.in_ok-report.ensures.ok in
    record {
      more = continues_more h a b (continues_called h a k) (continues_reported a b r);
      none_out = none_out_reported a b k.none_out r;
      due = r.none_due;
      way = way_reported (record { picks = g.C.Chooser.picks; next = g.C.Chooser.next }) h a b (called_back h c.args.chooser.now)
          c.args.chooser.now (way_called (record { picks = g.C.Chooser.picks; next = g.C.Chooser.next }) h a
          c.args.chooser.now k) r;
    }

pub turns-preserved : goal.turns-preserved
turns-preserved g c =
    let h = c.args.self.now in
    let a = c.turns.self in
    let b = c.go_alone.new.self in
    let d = c.report-in-turns.new.self in
    let went = subst (λ o. GoesIfLeft a o b) c.if-not-branch.false c.in_ok-go_alone.ensures.ok in
    let k = went.1 in
    let going = over_not a.budget (run_of a.course) went.0 (sym c.turns-test.ensures.spent) in
    let r = c.in_ok-report-2.ensures.ok in
    record {
      more = continues_more h b d (alone_continues h a b c.turns.invariant.more (record { leads = c.turns-test.ensures.leads; going = going }) k) (continues_reported b d r);
      none_out = none_out_reported b d k.none_out r;
      due = r.none_due;
      way = way_reported (record { picks = g.C.Chooser.picks; next = g.C.Chooser.next }) h b d (called_back h c.args.chooser.now) c.go_alone.new.chooser
          (way_more (record { picks = g.C.Chooser.picks; next = g.C.Chooser.next }) h a b (called_back h c.args.chooser.now) c.turns.chooser c.go_alone.new.chooser k.item c.turns.invariant.way c.turns.invariant.more
          going (below a.budget (run_of a.course) going) (subst (λ o. GoesIfLeftBy (record {
            picks = g.C.Chooser.picks;
            next = g.C.Chooser.next;
          }) a c.turns.chooser o b c.go_alone.new.chooser) c.if-not-branch.false
          c.in_ok-go_alone.ensures.plays) k.moves) r;
    }

pub returns-in_err-report-2-clause-more : goal.returns-in_err-report-2-clause-more
returns-in_err-report-2-clause-more g c =
    let h = c.args.self.now in
    let a = c.turns.self in
    let b = c.go_alone.new.self in
    let d = c.report-in-turns.new.self in
    let went = subst (λ o. GoesIfLeft a o b) c.if-not-branch.false c.in_ok-go_alone.ensures.ok in
    let going = over_not a.budget (run_of a.course) went.0 (sym c.turns-test.ensures.spent) in
    still_continues h b d (alone_continues h a b c.turns.invariant.more (record { leads = c.turns-test.ensures.leads; going = going }) went.1) c.in_err-report-2.ensures.err

pub returns-in_err-call_back-clause-err : goal.returns-in_err-call_back-clause-err
returns-in_err-call_back-clause-err g c = on_err c.from_residual.result (inr c.in_err-call_back.ensures.err)

pub returns-in_err-report-clause-err : goal.returns-in_err-report-clause-err
returns-in_err-report-clause-err g c =
    on_err c.from_residual-in_err-report.result (inl (none_out_same c.call_back.new.self c.report.new.self c.in_ok-call_back.ensures.ok.none_out c.in_err-report.ensures.err))

pub returns-in_err-go_alone-clause-err : goal.returns-in_err-go_alone-clause-err
returns-in_err-go_alone-clause-err g c =
    on_err c.from_residual-in_err-go_alone.result (inl (none_out_same c.turns.self c.go_alone.new.self c.turns.invariant.none_out c.in_err-go_alone.ensures.err))

pub returns-in_err-report-2-clause-err : goal.returns-in_err-report-2-clause-err
returns-in_err-report-2-clause-err g c =
    let went = subst (λ o. GoesIfLeft c.turns.self o c.go_alone.new.self) c.if-not-branch.false c.in_ok-go_alone.ensures.ok in
    on_err c.from_residual-in_err-report-2.result (inl (none_out_same c.go_alone.new.self c.report-in-turns.new.self went.1.none_out c.in_err-report-2.ensures.err))

pub returns-clause-plays : goal.returns-clause-plays
returns-clause-plays g c =
    way_out (record { picks = g.C.Chooser.picks; next = g.C.Chooser.next }) c.args.self.now c.turns.self c.args.chooser.now c.turns.chooser c.turns.invariant.way c.turns.invariant.more
    (over_spent c.turns.self.budget (run_of c.turns.self.course) (sym c.turns-test.ensures.spent))

pub returns-clause-ok : goal.returns-clause-ok
returns-clause-ok g c =
    record {
      over_is = over_spent c.turns.self.budget (run_of c.turns.self.course) (sym c.turns-test.ensures.spent);
      end_is = cc;
      none_out = c.turns.invariant.none_out;
      none_due = c.turns.invariant.due;
    }

pub returns-then-not-branch-clause-more : goal.returns-then-not-branch-clause-more
returns-then-not-branch-clause-more g c =
    let a = c.turns.self in
    let b = c.go_alone.new.self in
    let went = subst (λ o. GoesIfLeft a o b) c.if-not-branch.true c.in_ok-go_alone.ensures.ok in
    still_continues c.args.self.now a b c.turns.invariant.more went.1

pub returns-then-not-branch-clause-ok : goal.returns-then-not-branch-clause-ok
returns-then-not-branch-clause-ok g c =
    let a = c.turns.self in
    let b = c.go_alone.new.self in
    quiet_over a b c.turns.invariant.none_out c.turns.invariant.due (subst (λ o. GoesIfLeft a o b) c.if-not-branch.true c.in_ok-go_alone.ensures.ok)

pub returns-then-not-branch-clause-plays : goal.returns-then-not-branch-clause-plays
returns-then-not-branch-clause-plays g c =
    let a = c.turns.self in
    let b = c.go_alone.new.self in
    let went = subst (λ o. GoesIfLeft a o b) c.if-not-branch.true c.in_ok-go_alone.ensures.ok in
    let stays = subst (λ o. GoesIfLeftBy (record { picks = g.C.Chooser.picks; next = g.C.Chooser.next }) a
    c.turns.chooser o b c.go_alone.new.chooser) c.if-not-branch.true c.in_ok-go_alone.ensures.plays in
    way_quiet (record { picks = g.C.Chooser.picks; next = g.C.Chooser.next }) c.args.self.now a b c.args.chooser.now c.turns.chooser c.go_alone.new.chooser c.turns.invariant.way c.turns.invariant.more
    (over_quiet a.budget (run_of a.course) went.0) went.1 stays

pub returns-in_err-call_back-clause-so_far : goal.returns-in_err-call_back-clause-so_far
returns-in_err-call_back-clause-so_far g c = on_err c.from_residual.result (inr c.in_err-call_back.ensures.err)

pub returns-in_err-report-clause-so_far : goal.returns-in_err-report-clause-so_far
returns-in_err-report-clause-so_far g c =
    let h = c.args.self.now in
    let way = way_called (record { picks = g.C.Chooser.picks; next = g.C.Chooser.next }) h c.call_back.new.self c.args.chooser.now c.in_ok-call_back.ensures.ok in
    on_err c.from_residual-in_err-report.result (inl (way_on (record {
      picks = g.C.Chooser.picks;
      next =
          g.C.Chooser.next;
    }) h c.call_back.new.self c.report.new.self c.args.chooser.now c.args.chooser.now way
    c.in_err-report.ensures.err))

pub returns-in_err-go_alone-clause-so_far : goal.returns-in_err-go_alone-clause-so_far
returns-in_err-go_alone-clause-so_far g c =
    on_err c.from_residual-in_err-go_alone.result
    (inl (way_on (record { picks = g.C.Chooser.picks; next = g.C.Chooser.next }) c.args.self.now c.turns.self
    c.go_alone.new.self c.args.chooser.now c.turns.chooser c.turns.invariant.way c.in_err-go_alone.ensures.err))

pub returns-in_err-report-2-clause-so_far : goal.returns-in_err-report-2-clause-so_far
returns-in_err-report-2-clause-so_far g c =
    let h = c.args.self.now in
    let a = c.turns.self in
    let b = c.go_alone.new.self in
    let went = subst (λ o. GoesIfLeft a o b) c.if-not-branch.false c.in_ok-go_alone.ensures.ok in
    let k = went.1 in
    let going = over_not a.budget (run_of a.course) went.0 (sym c.turns-test.ensures.spent) in
    let way = way_more (record { picks = g.C.Chooser.picks; next = g.C.Chooser.next }) h a b (called_back h c.args.chooser.now)
    c.turns.chooser c.go_alone.new.chooser k.item c.turns.invariant.way c.turns.invariant.more
    going (below a.budget (run_of a.course) going) (subst (λ o. GoesIfLeftBy (record {
      picks = g.C.Chooser.picks;
      next =
          g.C.Chooser.next;
    }) a c.turns.chooser o b c.go_alone.new.chooser) c.if-not-branch.false
    c.in_ok-go_alone.ensures.plays) k.moves in
    on_err c.from_residual-in_err-report-2.result
    (inl (way_on (record { picks = g.C.Chooser.picks; next = g.C.Chooser.next }) h b c.report-in-turns.new.self c.args.chooser.now c.go_alone.new.chooser way c.in_err-report-2.ensures.err))
