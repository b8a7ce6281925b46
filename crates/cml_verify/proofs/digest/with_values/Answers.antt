use Rattle.std.proofs.Common.{arith}
use Rattle.std.specs.Prelude.{fold}
use Rattle.cml_verify.specs.Digests.{value_mixed}
use Rattle.cml_verify.proofs.Digesting.{fold_next, fold_done}
use Rattle.cml_verify.proofs.digest.with_values.Goals as goal

pub loop-value-preserved : goal.loop-value-preserved
loop-value-preserved c =
    let xs = c.args.values.now in
    let at = c.loop-value.value-index in
    let before = c.loop-value.all in
    let more = value_mixed in
    fold_next more xs at c.value-item.result before c.with_value-all.result (fold more c.args.digest xs) (omega arith) c.value-item.is
    c.with_value-all.ensures c.loop-value.invariant

pub returns : goal.returns
returns c =
    let xs = c.args.values.now in
    let more = value_mixed in
    fold_done more xs c.loop-value.value-index c.loop-value.all (fold more c.args.digest xs) (omega arith) c.loop-value.invariant
