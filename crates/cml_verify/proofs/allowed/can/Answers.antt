use Rattle.std.proofs.Common.{◌∙◌}
use Rattle.cml_verify.proofs.Coming.{can_turn, can_tick}
use Rattle.cml_verify.proofs.allowed.can.Goals as goal

pub returns-in-Turn : goal.returns-in-Turn
returns-in-Turn c =
    let k = c.args.hub.now.course in
    rw c.in-Turn.is (c.can_turn.ensures ∙ can_turn k c.in-Turn.thread)

pub returns-in-Clock : goal.returns-in-Clock
returns-in-Clock c =
    let k = c.args.hub.now.course in
    rw c.in-Clock.is (c.can_tick.ensures ∙ can_tick k c.in-Clock.tick)
