use Rattle.std.proofs.Common.{arith}
use Rattle.cml_judge.proofs.StopLemmas.{earlier_more, earlier_all}
use Rattle.cml_judge.proofs.stop.earliest.Goals as goal

pub loop-line-preserved : goal.loop-line-preserved
loop-line-preserved c = earlier_more c.args.lines.now c.loop-line.line-index _ _ _ _ c.loop-line-test.true c.earlier-first.ensures c.loop-line.invariant

pub returns : goal.returns
returns c = earlier_all c.args.lines.now c.loop-line.line-index _ _ (omega arith) c.loop-line.invariant
