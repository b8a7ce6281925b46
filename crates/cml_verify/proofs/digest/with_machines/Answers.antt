use Rattle.std.proofs.Common.{ℕ, ap, ◌∙◌, arith}
use Rattle.std.specs.Prelude.{fold}
use Rattle.cml_step.specs.Machines.{PlainMachine}
use Rattle.cml_verify.specs.Digests.{stack_mixed}
use Rattle.cml_verify.proofs.Digesting.{fold_next, fold_done}
use Rattle.cml_verify.proofs.digest.with_machines.Goals as goal

pub loop-machine-preserved : goal.loop-machine-preserved
loop-machine-preserved c =
    let xs = c.args.machines.now in
    let at = c.loop-machine.machine-index in
    let before = c.loop-machine.all in
    let more = λ (d : ℕ) (m : PlainMachine). stack_mixed d m.stack in
    fold_next more xs at c.machine-item.result before c.with_stack-all.result (fold more c.args.digest xs) (omega arith) c.machine-item.is
    (c.with_stack-all.ensures ∙ ap (stack_mixed before) c.entries.ensures) c.loop-machine.invariant

pub returns : goal.returns
returns c =
    let xs = c.args.machines.now in
    let more = λ (d : ℕ) (m : PlainMachine). stack_mixed d m.stack in
    fold_done more xs c.loop-machine.machine-index c.loop-machine.all (fold more c.args.digest xs) (omega arith) c.loop-machine.invariant
