use Rattle.std.proofs.Common.{sym, subst, ◌∷◌, refl}
use Rattle.cml_step.specs.Terms.{StackEntry}
use Rattle.cml_step.specs.Steps.{next}
use Rattle.cml_step.specs.Calls.{MovesTo, text_of, entry_of, entry_for}
use Rattle.cml_step.proofs.StackLemmas.{entry_is, moved_fits}
use Rattle.cml_step.proofs.stack.step_of_call.Goals as goal

pub returns-clause-moves : goal.returns-clause-moves
returns-clause-moves c = λ below.
    let p = c.args.program.now in
    let f = c.function-f.result.now in
    let old = c.args.call.now in
    let new = c.call_step.new.call in
    subst (λ (e : StackEntry). MovesTo p c.call_step.result e below (next (text_of p) c.args.thread.0 (entry_of p old ∷ below)))
    (sym (entry_is p f old new c.requires.fits.there c.function-f.ensures.found c.call_step.ensures.stays.same))
    (subst (λ (e : StackEntry). MovesTo p c.call_step.result (entry_for f new) below (next (text_of p) c.args.thread.0 (e ∷ below)))
    (sym (entry_is p f old old c.requires.fits.there c.function-f.ensures.found refl)) (c.call_step.ensures.moves below))

pub returns-clause-fits : goal.returns-clause-fits
returns-clause-fits c =
    moved_fits c.args.program.now c.function-f.result.now c.args.call.now c.call_step.new.call c.requires.fits.there c.function-f.ensures.found c.call_step.ensures.stays.same
    c.call_step.ensures.stays.agree c.call_step.ensures.stays.waits
