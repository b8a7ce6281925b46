use Rattle.std.proofs.Common.{arith}
use Rattle.std.specs.Prelude.{fold}
use Rattle.cml_verify.specs.Digests.{variable_mixed}
use Rattle.cml_verify.proofs.Digesting.{fold_next, fold_done}
use Rattle.cml_verify.proofs.digest.with_variables.Goals as goal

pub loop-variable-preserved : goal.loop-variable-preserved
loop-variable-preserved c =
    let xs = c.args.variables.now in
    let at = c.loop-variable.variable-index in
    let before = c.loop-variable.all in
    let more = variable_mixed in
    fold_next more xs at c.variable-item.result before c.with_variable-all.result (fold more c.args.digest xs) (omega arith) c.variable-item.is
    c.with_variable-all.ensures c.loop-variable.invariant

pub returns : goal.returns
returns c =
    let xs = c.args.variables.now in
    let more = variable_mixed in
    fold_done more xs c.loop-variable.variable-index c.loop-variable.all (fold more c.args.digest xs) (omega arith) c.loop-variable.invariant
