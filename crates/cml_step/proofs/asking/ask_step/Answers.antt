use Rattle.std.proofs.Common.{◌≡◌, ◌∷◌, ◌∙◌, length, true, ap, subst, rules}
use Rattle.cml_check.specs.Syntax.{just_do}
use Rattle.cml_check.specs.InOrder.{arities}
use Rattle.cml_check.specs.Layout.{left}
use Rattle.cml_check.specs.Ops.{told_effect, OpFollows, op_fits}
use Rattle.cml_step.specs.Calls.{text_of, variables_of}
use Rattle.cml_step.specs.Steps.{next}
use Rattle.cml_step.proofs.CallLemmas.{steps_there, at_statement}
use Rattle.cml_step.proofs.StackLemmas.{fun_at}
use Rattle.cml_step.proofs.QuickLemmas.{entry_there}
use Rattle.cml_step.proofs.asking.ask_step.Goals as goal

pub ask_waits-requires-clause-function : goal.ask_waits-requires-clause-function
ask_waits-requires-clause-function c =
    (c.function-f.ensures.fits, fun_at c.args.program.now c.args.call.now.func c.function-f.result.now c.requires.there c.function-f.ensures.found)

pub ask_waits-requires-clause-fits : goal.ask_waits-requires-clause-fits
ask_waits-requires-clause-fits c =
    let p = c.args.program.now in
    let f = c.function-f.result.now in
    subst (λ o. op_fits (arities p) (length f.names) o ≡ true) c.in-Tell.is (c.in-Some.ensures.fits (arities p) c.function-f.ensures.fits)

pub returns-in-Tell-clause-meant : goal.returns-in-Tell-clause-meant
returns-in-Tell-clause-meant c = λ on self below.
    let p = c.args.program.now in
    let f = c.function-f.result.now in
    let k = c.args.call.now in
    ap (λ e. next (text_of p) self (e ∷ below)) (entry_there p f k (fun_at p k.func f c.requires.there c.function-f.ensures.found))
    ∙ steps_there (text_of p) self f k below (search rules)
    ∙ at_statement (text_of p) self f (variables_of f k) below k.at (just_do (told_effect c.in-Tell.told)) (left f.body c.in-Tell.next)
    (subst (λ o. OpFollows (left f.body) o (left f.body k.at)) c.in-Tell.is c.in-Some.ensures.follows)
    ∙ c.ask_waits.ensures.meant on self below
