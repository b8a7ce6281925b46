use Rattle.std.proofs.Common.{refl}
use Rattle.cml_check.specs.InOrder.{exprs_count}
use Rattle.cml_step.specs.declared.call.Call.{Call}
use Rattle.cml_step.specs.declared.call.Wait.TheVariants as wait
use Rattle.cml_step.proofs.QuickLemmas.{call_made, made_fits}
use Rattle.cml_step.proofs.quick.begun.Goals as goal

pub returns-clause-made : goal.returns-clause-made
returns-clause-made c = λ self below room.
    let new : Call = record { func = c.args.func; at = 0; slots = c.in_ok-slots.slots; wait = wait.Runs; asked = 0 } in
    call_made c.args.program.now _ new below c.in_ok-slots.ensures.gives refl refl room

pub returns-clause-fits : goal.returns-clause-fits
returns-clause-fits c =
    let new : Call = record { func = c.args.func; at = 0; slots = c.in_ok-slots.slots; wait = wait.Runs; asked = 0 } in
    made_fits c.args.program.now new (exprs_count c.args.es.now) c.requires.takes c.in_ok-slots.ensures.count c.in_ok-slots.ensures.agree refl
