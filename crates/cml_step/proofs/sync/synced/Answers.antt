use Rattle.std.proofs.Common.{◌≡◌, ◌∷◌, ◌∙◌, length, true, subst}
use Rattle.cml_check.specs.Syntax.{let_be, just_do, effect}
use Rattle.cml_check.specs.Layout.{left}
use Rattle.cml_check.specs.Ops.{sync_effect, Acts, given_fits}
use Rattle.cml_step.specs.Calls.{text_of, variables_of}
use Rattle.cml_step.proofs.CallLemmas.{at_statement}
use Rattle.cml_step.proofs.PlainLemmas.{slot_there}
use Rattle.cml_step.proofs.sync.synced.Goals as goal

pub let_waits-requires-clause-slot : goal.let_waits-requires-clause-slot
let_waits-requires-clause-slot c =
    let n = length c.args.f.now.names in
    slot_there c.in-Some.slot n (subst (λ o. given_fits n o ≡ true) c.in-Some.is c.requires.given)

pub returns-in-Some-clause-gives : goal.returns-in-Some-clause-gives
returns-in-Some-clause-gives c = λ on self below.
    let p = c.args.program.now in
    let f = c.args.f.now in
    let at = c.args.call.now.at in
    let what = sync_effect c.args.offer.now in
    at_statement (text_of p) self f (variables_of f c.args.call.now) below at (let_be c.in-Some.slot (effect what)) (left f.body c.args.next)
    (subst (λ o. Acts (left f.body) what o c.args.next (left f.body at)) c.in-Some.is c.requires.here)
    ∙ c.let_waits.ensures.gives on self below

pub returns-in-None-clause-gives : goal.returns-in-None-clause-gives
returns-in-None-clause-gives c = λ on self below.
    let p = c.args.program.now in
    let f = c.args.f.now in
    let at = c.args.call.now.at in
    let what = sync_effect c.args.offer.now in
    at_statement (text_of p) self f (variables_of f c.args.call.now) below at (just_do what) (left f.body c.args.next)
    (subst (λ o. Acts (left f.body) what o c.args.next (left f.body at)) c.in-None.is c.requires.here)
    ∙ c.waits.ensures.gives on self below
