use Rattle.std.proofs.Common.{inl, sym, subst}
use Rattle.cml_hub.specs.Courses.{run_of}
use Rattle.cml_hub.specs.Moves.{GoesIfLeft}
use Rattle.cml_hub.specs.Playing.{GoesIfLeftBy, playing}
use Rattle.cml_hub.proofs.Played.{way_self, way_reported, way_same, way_more, way_to, way_some, way_stays}
use Rattle.cml_hub.proofs.Onward.{on_err}
use Rattle.cml_hub.proofs.Going.{below, alone_continues, continues_self, continues_more, continues_reported, still_continues, none_out_reported, none_out_same, over_not, over_spent, quiet_far}
use Rattle.cml_hub.proofs.hub.Hub.run_on.Goals as goal

pub returns-in_err-report-clause-more : goal.returns-in_err-report-clause-more
returns-in_err-report-clause-more g c = still_continues c.args.self.now c.args.self.now c.report.new.self (continues_self c.args.self.now) c.in_err-report.ensures.err

pub returns-in_err-report-clause-none_out : goal.returns-in_err-report-clause-none_out
returns-in_err-report-clause-none_out g c = none_out_same c.args.self.now c.report.new.self c.requires c.in_err-report.ensures.err

pub turns-init : goal.turns-init
turns-init g c =
    let h = c.args.self.now in
    let b = c.report.new.self in
    let r = c.in_ok-report.ensures.ok in
    record {
      more = continues_reported h b r;
      none_out = none_out_reported h b c.requires r;
      due = r.none_due;
      way = way_reported (record { picks = g.C.Chooser.picks; next = g.C.Chooser.next }) h h b (playing h c.args.chooser.now) c.args.chooser.now
          (way_self (record { picks = g.C.Chooser.picks; next = g.C.Chooser.next }) h c.args.chooser.now) r;
    }

pub turns-preserved : goal.turns-preserved
turns-preserved g c =
    let h = c.args.self.now in
    let a = c.turns.self in
    let b = c.go_alone.new.self in
    let d = c.report-in-turns.new.self in
    let went = subst (λ o. GoesIfLeft a o b) c.if-not-branch.false c.in_ok-go_alone.ensures.ok in
    let k = went.1 in
    let going = over_not a.budget (run_of a.course) went.0 (sym c.turns-test.ensures.spent) in
    let r = c.in_ok-report-2.ensures.ok in
    let w = way_more (record { picks = g.C.Chooser.picks; next = g.C.Chooser.next }) h a b (playing h c.args.chooser.now) c.turns.chooser c.go_alone.new.chooser k.item
    c.turns.invariant.way c.turns.invariant.more going (below a.budget (run_of a.course) going)
    (subst (λ o. GoesIfLeftBy (record { picks = g.C.Chooser.picks; next = g.C.Chooser.next }) a c.turns.chooser o b c.go_alone.new.chooser)
    c.if-not-branch.false c.in_ok-go_alone.ensures.plays) k.moves in
    record {
      more = continues_more h b d (alone_continues h a b c.turns.invariant.more (record { leads = c.turns-test.ensures.leads; going = going }) k) (continues_reported b d r);
      none_out = none_out_reported b d k.none_out r;
      due = r.none_due;
      way = way_reported (record { picks = g.C.Chooser.picks; next = g.C.Chooser.next }) h b d (playing h c.args.chooser.now) c.go_alone.new.chooser w r;
    }

pub returns-in_err-go_alone-clause-none_out : goal.returns-in_err-go_alone-clause-none_out
returns-in_err-go_alone-clause-none_out g c = none_out_same c.turns.self c.go_alone.new.self c.turns.invariant.none_out c.in_err-go_alone.ensures.err

pub returns-in_err-report-2-clause-more : goal.returns-in_err-report-2-clause-more
returns-in_err-report-2-clause-more g c =
    let h = c.args.self.now in
    let a = c.turns.self in
    let b = c.go_alone.new.self in
    let d = c.report-in-turns.new.self in
    let went = subst (λ o. GoesIfLeft a o b) c.if-not-branch.false c.in_ok-go_alone.ensures.ok in
    let going = over_not a.budget (run_of a.course) went.0 (sym c.turns-test.ensures.spent) in
    still_continues h b d (alone_continues h a b c.turns.invariant.more (record { leads = c.turns-test.ensures.leads; going = going }) went.1) c.in_err-report-2.ensures.err

pub returns-in_err-report-2-clause-none_out : goal.returns-in_err-report-2-clause-none_out
returns-in_err-report-2-clause-none_out g c =
    let went = subst (λ o. GoesIfLeft c.turns.self o c.go_alone.new.self) c.if-not-branch.false c.in_ok-go_alone.ensures.ok in
    none_out_same c.go_alone.new.self c.report-in-turns.new.self went.1.none_out c.in_err-report-2.ensures.err

pub returns-then-not-branch-clause-more : goal.returns-then-not-branch-clause-more
returns-then-not-branch-clause-more g c =
    let a = c.turns.self in
    let b = c.go_alone.new.self in
    let went = subst (λ o. GoesIfLeft a o b) c.if-not-branch.true c.in_ok-go_alone.ensures.ok in
    still_continues c.args.self.now a b c.turns.invariant.more went.1

pub returns-then-not-branch-clause-none_out : goal.returns-then-not-branch-clause-none_out
returns-then-not-branch-clause-none_out g c =
    let a = c.turns.self in
    let b = c.go_alone.new.self in
    let went = subst (λ o. GoesIfLeft a o b) c.if-not-branch.true c.in_ok-go_alone.ensures.ok in
    none_out_same a b c.turns.invariant.none_out went.1

pub returns-then-not-branch-clause-far : goal.returns-then-not-branch-clause-far
returns-then-not-branch-clause-far g c =
    let a = c.turns.self in
    let b = c.go_alone.new.self in
    quiet_far c.args.self.now a b c.args.steps (subst (λ o. GoesIfLeft a o b) c.if-not-branch.true c.in_ok-go_alone.ensures.ok)

pub returns-clause-far : goal.returns-clause-far
returns-clause-far g c = inl (over_spent c.turns.self.budget (run_of c.turns.self.course) (sym c.turns-test.ensures.spent))

pub returns-in_err-report-clause-so_far : goal.returns-in_err-report-clause-so_far
returns-in_err-report-clause-so_far g c =
    let h = c.args.self.now in
    on_err c.from_residual.result (way_some (record { picks = g.C.Chooser.picks; next = g.C.Chooser.next }) h c.report.new.self c.args.chooser.now c.args.chooser.now
    (way_same (record { picks = g.C.Chooser.picks; next = g.C.Chooser.next }) h h c.report.new.self (playing h c.args.chooser.now) c.args.chooser.now
    (way_self (record { picks = g.C.Chooser.picks; next = g.C.Chooser.next }) h c.args.chooser.now) c.in_err-report.ensures.err))

pub returns-then-has_used-clause-plays : goal.returns-then-has_used-clause-plays
returns-then-has_used-clause-plays g c = way_to (record { picks = g.C.Chooser.picks; next = g.C.Chooser.next }) c.args.self.now c.turns.self c.args.chooser.now c.turns.chooser c.turns.invariant.way

pub returns-in_err-go_alone-clause-so_far : goal.returns-in_err-go_alone-clause-so_far
returns-in_err-go_alone-clause-so_far g c =
    let h = c.args.self.now in
    on_err c.from_residual-in_err-go_alone.result (way_some (record { picks = g.C.Chooser.picks; next = g.C.Chooser.next }) h c.go_alone.new.self c.args.chooser.now c.turns.chooser
    (way_same (record { picks = g.C.Chooser.picks; next = g.C.Chooser.next }) h c.turns.self c.go_alone.new.self (playing h c.args.chooser.now) c.turns.chooser
    c.turns.invariant.way c.in_err-go_alone.ensures.err))

pub returns-then-not-branch-clause-plays : goal.returns-then-not-branch-clause-plays
returns-then-not-branch-clause-plays g c =
    let a = c.turns.self in
    let b = c.go_alone.new.self in
    let went = subst (λ o. GoesIfLeft a o b) c.if-not-branch.true c.in_ok-go_alone.ensures.ok in
    let stays = subst (λ o. GoesIfLeftBy (record { picks = g.C.Chooser.picks; next = g.C.Chooser.next }) a
    c.turns.chooser o b c.go_alone.new.chooser) c.if-not-branch.true c.in_ok-go_alone.ensures.plays in
    way_stays (record { picks = g.C.Chooser.picks; next = g.C.Chooser.next }) c.args.self.now a b c.args.chooser.now c.turns.chooser c.go_alone.new.chooser c.turns.invariant.way went.1 stays

pub returns-in_err-report-2-clause-so_far : goal.returns-in_err-report-2-clause-so_far
returns-in_err-report-2-clause-so_far g c =
    let h = c.args.self.now in
    let a = c.turns.self in
    let b = c.go_alone.new.self in
    let d = c.report-in-turns.new.self in
    let went = subst (λ o. GoesIfLeft a o b) c.if-not-branch.false c.in_ok-go_alone.ensures.ok in
    let k = went.1 in
    let going = over_not a.budget (run_of a.course) went.0 (sym c.turns-test.ensures.spent) in
    let w = way_more (record { picks = g.C.Chooser.picks; next = g.C.Chooser.next }) h a b (playing h c.args.chooser.now) c.turns.chooser c.go_alone.new.chooser k.item
    c.turns.invariant.way c.turns.invariant.more going (below a.budget (run_of a.course) going)
    (subst (λ o. GoesIfLeftBy (record { picks = g.C.Chooser.picks; next = g.C.Chooser.next }) a c.turns.chooser o b c.go_alone.new.chooser)
    c.if-not-branch.false c.in_ok-go_alone.ensures.plays) k.moves in
    on_err c.from_residual-in_err-report-2.result (way_some (record { picks = g.C.Chooser.picks; next = g.C.Chooser.next }) h d c.args.chooser.now c.go_alone.new.chooser
    (way_same (record { picks = g.C.Chooser.picks; next = g.C.Chooser.next }) h b d (playing h c.args.chooser.now) c.go_alone.new.chooser w c.in_err-report-2.ensures.err))

pub returns-clause-plays : goal.returns-clause-plays
returns-clause-plays g c = way_to (record { picks = g.C.Chooser.picks; next = g.C.Chooser.next }) c.args.self.now c.turns.self c.args.chooser.now c.turns.chooser c.turns.invariant.way
