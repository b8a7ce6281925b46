use Rattle.std.proofs.Common.{refl}
use Rattle.cml_explore.proofs.ToldLemmas.{breaks_next}
use Rattle.cml_explore.proofs.tell.each_break_told.Goals as goal

pub loop-one-preserved : goal.loop-one-preserved
loop-one-preserved c =
    breaks_next c.args.hub.now c.args.breaks.now c.loop-one.one-index _ c.loop-one.told.items c.push.new.self.items _ c.loop-one-test.true
    c.in_ok-push.ensures.items refl c.in_ok-who.ensures c.loop-one.invariant
