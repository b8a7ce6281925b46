use Rattle.std.proofs.Common.{◌++◌, ◌∷◌, [], ap, sym, ◌∙◌, reverse}
use Rattle.cml_value.specs.Value.{PlainFunction}
use Rattle.cml_check.specs.InOrder.{arities}
use Rattle.cml_step.specs.Agrees.{function_agrees, functions_agree}
use Rattle.cml_step.specs.Calls.{text_of}
use Rattle.cml_step.specs.Steps.{pushed}
use Rattle.cml_step.specs.Terms.{call_of, wraps}
use Rattle.cml_step.proofs.ForceLemmas.{given_is, given_agrees_last}
use Rattle.cml_step.proofs.StackLemmas.{next_wrap, wraps_popped}
use Rattle.cml_step.proofs.stack.step_of_wraps.Goals as goal

pub returns-in_ok-push-in-Some-clause-moves : goal.returns-in_ok-push-in-Some-clause-moves
returns-in_ok-push-in-Some-clause-moves c = λ self below.
    let p = c.args.program.now in
    let v = c.args.wraps.now.value in
    let us = c.args-in-Some.result.now in
    let left = c.pop.new.self.items in
    next_wrap (text_of p) self c.args.wraps.now.left.items left c.in-Some.f v below c.in-Some.ensures.items
    ∙ ap (λ (g : PlainFunction). pushed (call_of (text_of p) g) (wraps (reverse left) v ∷ below))
    (given_is c.in-Some.f c.func.result us c.push.new.self.items v c.func.ensures c.args-in-Some.ensures
    (c.in_ok-push-in-Some.ensures.items ∙ ap (λ vs. vs ++ c.in_ok-copy-in-Some.field-0 ∷ []) c.in_ok-args-in-Some.ensures ∙ ap (λ x. us ++ x ∷ []) c.in_ok-copy-in-Some.ensures))

pub returns-in_ok-push-in-Some-clause-did : goal.returns-in_ok-push-in-Some-clause-did
returns-in_ok-push-in-Some-clause-did c =
    let p = c.args.program.now in
    let v = c.args.wraps.now.value in
    let us = c.args-in-Some.result.now in
    ap (function_agrees (arities p) 0)
    (sym
    (given_is c.in-Some.f c.func.result us c.push.new.self.items v c.func.ensures c.args-in-Some.ensures
    (c.in_ok-push-in-Some.ensures.items ∙ ap (λ vs. vs ++ c.in_ok-copy-in-Some.field-0 ∷ []) c.in_ok-args-in-Some.ensures ∙ ap (λ x. us ++ x ∷ []) c.in_ok-copy-in-Some.ensures)))
    ∙ given_agrees_last (arities p) c.in-Some.f v
    (wraps_popped (arities p) c.pop.new.self.items c.in-Some.f (ap (functions_agree (arities p)) (sym c.in-Some.ensures.items) ∙ c.requires.fits.functions)).1 c.requires.fits.value
