use Rattle.std.proofs.Common.{arith}
use Rattle.cml_picture.proofs.HoldLemmas.{held_more}
use Rattle.cml_picture.proofs.sheet.hold.holds_of.Goals as goal

pub loop-at-preserved : goal.loop-at-preserved
loop-at-preserved c =
    held_more c.args.shown.now c.loop-at.at c.loop-at.all.items c.add_held.new.all.items c.held_at.result (omega arith) c.loop-at.invariant c.held_at.ensures c.in_ok-add_held.ensures
