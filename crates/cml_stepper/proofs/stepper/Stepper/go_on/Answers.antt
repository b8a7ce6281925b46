use Rattle.std.proofs.Common.{sym, ◌∙◌}
use Rattle.cml_stepper.specs.Steppers.{places_known}
use Rattle.cml_stepper.proofs.ReplyLemmas.{typed_allowed, moves_some, moves_none}
use Rattle.cml_stepper.proofs.stepper.Stepper.go_on.Goals as goal

pub go-requires-clause-allowed : goal.go-requires-clause-allowed
go-requires-clause-allowed c = typed_allowed c.args.hub.now.course.world c.args.hub.now.course.items c.args.what c.in-Some.item (sym c.in-Some.is ∙ c.in_ok-named.ensures)

pub returns-in_ok-gone-in-Some-clause-moves : goal.returns-in_ok-gone-in-Some-clause-moves
returns-in_ok-gone-in-Some-clause-moves c =
    moves_some (places_known c.args.self.now) c.args.what c.args.hub.now c.go.new.hub c.in_ok-gone-in-Some.gone c.in-Some.item _ (sym c.in-Some.is ∙
    c.in_ok-named.ensures) c.in_ok-gone-in-Some.ensures.goes

pub returns-in_ok-stay-in-None-clause-moves : goal.returns-in_ok-stay-in-None-clause-moves
returns-in_ok-stay-in-None-clause-moves c =
    moves_none (places_known c.args.self.now) c.args.what c.args.hub.now c.in_ok-stay-in-None.stay c.stays.result _ (sym c.in-None.is ∙ c.in_ok-named.ensures)
    c.in_ok-stay-in-None.ensures c.stays.ensures
