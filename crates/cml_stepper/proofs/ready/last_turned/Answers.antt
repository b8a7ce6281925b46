use Rattle.std.proofs.Common.{◌∙◌, sym, arith}
use Rattle.cml_schedule.specs.declared.item.Item.TheVariants.{Turn}
use Rattle.cml_stepper.proofs.PickLemmas.{turned_here, turned_before}
use Rattle.cml_stepper.proofs.ready.last_turned.Goals as goal

pub returns-in-Some : goal.returns-in-Some
returns-in-Some c =
    sym (turned_here c.args.items.now c.loop-k.k (Turn (record { 0 = 0 })) c.in-Some.thread (omega arith) c.in-Some.ensures) ∙ c.loop-k.invariant

pub loop-k-preserved : goal.loop-k-preserved
loop-k-preserved c =
    turned_before c.args.items.now c.loop-k.k (Turn (record { 0 = 0 })) (omega arith) c.in-None.ensures ∙ c.loop-k.invariant
