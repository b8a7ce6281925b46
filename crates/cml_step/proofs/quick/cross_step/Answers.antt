use Rattle.std.proofs.Common.{◌∷◌, ◌∙◌, ap, sym, rules}
use Rattle.cml_step.specs.Callers.{calls_on}
use Rattle.cml_step.specs.Calls.{text_of, variables_of}
use Rattle.cml_step.specs.Steps.{next, delivered}
use Rattle.cml_step.proofs.CallLemmas.{steps_there, at_end}
use Rattle.cml_step.proofs.StackLemmas.{fun_at}
use Rattle.cml_step.proofs.QuickLemmas.{entry_there}
use Rattle.cml_step.proofs.quick.cross_step.Goals as goal

pub cross-requires-clause-function : goal.cross-requires-clause-function
cross-requires-clause-function c =
    (c.function-f.ensures.fits, fun_at c.args.program.now c.args.call.now.func c.function-f.result.now c.requires.call.there c.function-f.ensures.found)

pub returns-in-Some-clause-goes : goal.returns-in-Some-clause-goes
returns-in-Some-clause-goes c = λ on self below room.
    let p = c.args.program.now in
    let f = c.function-f.result.now in
    let cs = c.args.callers.now.items in
    ap (λ e. next (text_of p) self (e ∷ calls_on p cs below)) (entry_there p f c.args.call.now (fun_at p c.args.call.now.func f c.requires.call.there c.function-f.ensures.found))
    ∙ steps_there (text_of p) self f c.args.call.now (calls_on p cs below) (search rules)
    ∙ c.cross.ensures.goes on self below room

pub returns-in-None-clause-goes : goal.returns-in-None-clause-goes
returns-in-None-clause-goes c = λ on self below room.
    let p = c.args.program.now in
    let f = c.function-f.result.now in
    let cs = c.args.callers.now.items in
    ap (λ e. next (text_of p) self (e ∷ calls_on p cs below)) (entry_there p f c.args.call.now (fun_at p c.args.call.now.func f c.requires.call.there c.function-f.ensures.found))
    ∙ steps_there (text_of p) self f c.args.call.now (calls_on p cs below) (search rules)
    ∙ at_end (text_of p) self f (variables_of f c.args.call.now) (calls_on p cs below) c.args.call.now.at c.in-None.ensures.follows
    ∙ ap (λ v. delivered v (calls_on p cs below)) (sym c.new.ensures)
    ∙ c.returned.ensures.goes on below
