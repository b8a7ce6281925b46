use Rattle.cml_judge.proofs.JudgementLemmas.{broken_more, broken_all}
use Rattle.std.proofs.Common.{arith}
use Rattle.cml_judge.proofs.details.push_breaks.Goals as goal

pub loop-number-preserved : goal.loop-number-preserved
loop-number-preserved c = broken_more c.args.judged.now c.loop-number.number _ _ _ _ c.loop-number-test.true c.in_ok-push_break.ensures c.loop-number.invariant

pub returns : goal.returns
returns c = broken_all c.args.judged.now c.loop-number.number _ _ (omega arith) c.loop-number.invariant
