use Rattle.std.proofs.Common.{arith}
use Rattle.cml_phrase.specs.Shown.{space_under}
use Rattle.cml_phrase.proofs.AppendLemmas.{one_more}
use Rattle.cml_phrase.proofs.shown.push_margin.Goals as goal

pub loop-digit-preserved : goal.loop-digit-preserved
loop-digit-preserved c = one_more space_under c.args.number.now _ _ _ c.loop-digit._digit-index (omega arith) c.in_ok-push.ensures.items c.loop-digit.invariant
