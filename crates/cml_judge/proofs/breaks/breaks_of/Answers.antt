use Rattle.std.proofs.Common.{arith}
use Rattle.cml_judge.proofs.SpotLemmas.{told_more, told_all}
use Rattle.cml_judge.proofs.breaks.breaks_of.Goals as goal

pub loop-property-preserved : goal.loop-property-preserved
loop-property-preserved c =
    told_more c.args.hub.now c.args.judged.now c.loop-property.property _ _ _ _ c.loop-property-test.true c.in_ok-push_break.ensures.1 c.in_ok-push_break.ensures.2
    c.loop-property.invariant

pub returns : goal.returns
returns c = told_all c.args.hub.now c.args.judged.now c.loop-property.property _ (omega arith) c.loop-property.invariant
