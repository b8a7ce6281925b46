use Rattle.std.proofs.Common.{◌∙◌, [], sym, arith}
use Rattle.cml_book.proofs.Awaited.{awaited-take, awaited-yes, awaited-no}
use Rattle.cml_book.proofs.ticks.leaves_for.Goals as goal
use Rattle.cml_book.proofs.ticks.leaves_for.Goals.{then-awaits, else-awaits}

pub loop-n-preserved : goal.loop-n-preserved
loop-n-preserved c =
    let more = awaited-take c.args.tick c.args.flat.now c.loop-n.n c.leaf.result.now c.leaf.ensures in
    let was = c.loop-n.invariant.0 in
    let below = c.loop-n.invariant.1 in
    elim c.if-awaits.branch [
      | then-awaits w ↦ (let one = awaited-yes c.args.tick c.leaf.result.now [] (sym c.awaits.ensures ∙ w.if-awaits.true) in let is = w.leaves-is in (omega arith, omega arith))
      | else-awaits w ↦ (let none = awaited-no c.args.tick c.leaf.result.now [] (sym c.awaits.ensures ∙ w.if-awaits.false) in let is = w.leaves-is in (omega arith, omega arith))
    ]
