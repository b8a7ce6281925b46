use Rattle.std.proofs.Common.{◌∷◌, length, sym, subst}
use Rattle.cml_step.specs.Slices.{GoesIn}
use Rattle.cml_step.specs.Calls.{entry_for, entry_of, text_of, WaitFits}
use Rattle.cml_step.specs.Terms.{StackEntry}
use Rattle.cml_step.proofs.StackLemmas.{entry_is, moved_fits}
use Rattle.std.proofs.Common.{refl}
use Rattle.cml_step.proofs.plain.plain_run.Goals as goal

pub returns-clause-fits : goal.returns-clause-fits
returns-clause-fits c =
    let f = c.function-f.result.now in
    let kept = c.steps_of.ensures.kept in
    moved_fits c.args.program.now f c.args.call.now c.steps_of.new.call c.requires.there c.function-f.ensures.found kept.same kept.agree
    (subst (λ w. WaitFits w (length f.names) (length c.steps_of.new.call.slots.items)) (sym kept.runs) tt)

pub returns-clause-goes : goal.returns-clause-goes
returns-clause-goes c = λ self below.
    let p = c.args.program.now in
    let f = c.function-f.result.now in
    let old = c.args.call.now in
    let new = c.steps_of.new.call in
    subst (λ (e : StackEntry). GoesIn (text_of p) self c.steps_of.result (e ∷ below) (entry_of p new ∷ below)) (sym (entry_is p f old old c.requires.there c.function-f.ensures.found refl))
    (subst (λ (e : StackEntry). GoesIn (text_of p) self c.steps_of.result (entry_for f old ∷ below) (e ∷ below))
    (sym (entry_is p f old new c.requires.there c.function-f.ensures.found c.steps_of.ensures.kept.same)) (c.steps_of.ensures.goes self below))
