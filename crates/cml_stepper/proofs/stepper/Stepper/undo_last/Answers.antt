use Rattle.std.proofs.Common.{length, arith, ap}
use Rattle.cml_stepper.specs.Steppers.{places_known}
use Rattle.cml_stepper.proofs.ReplyLemmas.{undoes_none, undoes_some}
use Rattle.cml_stepper.proofs.stepper.Stepper.undo_last.Goals as goal

pub returns-then-count-eq0-clause-undoes : goal.returns-then-count-eq0-clause-undoes
returns-then-count-eq0-clause-undoes c =
    let h = c.args.hub.now in
    undoes_none h.course.items (places_known c.args.self.now) h c.stays.result (omega (arith, ap length c.schedule-count.ensures.items)) c.stays.ensures

pub returns-clause-undoes : goal.returns-clause-undoes
returns-clause-undoes c =
    let h = c.args.hub.now in
    undoes_some h.course.items (places_known c.args.self.now) h c.go_back.new.hub c.in_ok-gone.gone (omega (arith, ap length c.schedule-count.ensures.items)) c.in_ok-gone.ensures.undoes
