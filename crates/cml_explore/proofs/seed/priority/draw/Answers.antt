use Rattle.std.proofs.Common.{arith}
use Rattle.cml_explore.proofs.PriorityLemmas.{draws_one}
use Rattle.cml_explore.proofs.seed.priority.draw.Goals as goal

pub drawing-preserved : goal.drawing-preserved
drawing-preserved c =
    draws_one c.args.above c.args.span c.args.count c.pick.result _ _ c.drawing.chooser c.pick.new.self _
    (omega (arith, c.drawing.numbers.ok.0)) c.in_ok-push.ensures.items c.pick.ensures.picked c.pick.ensures.next
    c.drawing.invariant
