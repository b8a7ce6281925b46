use Rattle.std.proofs.Common.{◌≡◌, ◌∷◌, ◌∙◌, length, true, ap, sym, subst, rules, false}
use Rattle.cml_check.specs.InOrder.{arities}
use Rattle.cml_check.specs.Layout.{left}
use Rattle.cml_check.specs.Ops.{OpFollows, op_fits}
use Rattle.std.proofs.lemmas.Bool.{and_parts}
use Rattle.cml_step.specs.Calls.{text_of, entry_of}
use Rattle.cml_step.specs.Steps.{PlainStep, next, pushed}
use Rattle.cml_step.specs.Terms.{force}
use Rattle.cml_step.specs.Puts.{event_over}
use Rattle.cml_step.proofs.CallLemmas.{steps_there}
use Rattle.cml_step.proofs.StackLemmas.{fun_at}
use Rattle.cml_step.proofs.QuickLemmas.{entry_there}
use Rattle.cml_step.proofs.sync.sync_step.Goals as goal

pub synced-requires-clause-function : goal.synced-requires-clause-function
synced-requires-clause-function c =
    (c.function-f.ensures.fits, fun_at c.args.program.now c.args.call.now.func c.function-f.result.now c.requires.there c.function-f.ensures.found)

pub returns-in-Sync-clause-gives : goal.returns-in-Sync-clause-gives
returns-in-Sync-clause-gives c = λ on self below.
    let p = c.args.program.now in
    let f = c.function-f.result.now in
    subst (λ (s : PlainStep). s ≡ pushed (force (event_over c.synced.new.over) false) (entry_of p c.synced.new.call ∷ below))
    (sym
    (ap (λ e. next (text_of p) self (e ∷ below)) (entry_there p f c.args.call.now (fun_at p c.args.call.now.func f c.requires.there c.function-f.ensures.found))
    ∙ steps_there (text_of p) self f c.args.call.now below (search rules)))
    (c.synced.ensures.gives on self below)

pub synced-requires-clause-here : goal.synced-requires-clause-here
synced-requires-clause-here c =
    let left_at = left c.function-f.result.now.body in
    subst (λ o. OpFollows left_at o (left_at c.args.call.now.at)) c.in-Sync.is c.in-Some.ensures.follows

pub synced-requires-clause-given : goal.synced-requires-clause-given
synced-requires-clause-given c =
    let p = c.args.program.now in
    let f = c.function-f.result.now in
    (and_parts _ _ (subst (λ o. op_fits (arities p) (length f.names) o ≡ true) c.in-Sync.is (c.in-Some.ensures.fits (arities p) c.function-f.ensures.fits))).0

pub synced-requires-clause-fits : goal.synced-requires-clause-fits
synced-requires-clause-fits c =
    let p = c.args.program.now in
    let f = c.function-f.result.now in
    (and_parts _ _ (subst (λ o. op_fits (arities p) (length f.names) o ≡ true) c.in-Sync.is (c.in-Some.ensures.fits (arities p) c.function-f.ensures.fits))).1
