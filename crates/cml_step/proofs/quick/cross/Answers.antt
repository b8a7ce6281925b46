use Rattle.std.proofs.Common.{◌≡◌, ◌∙◌, subst}
use Rattle.cml_check.specs.Syntax.{let_be, just_do, return_with, effect, stmts_and, stmts_map, name_at}
use Rattle.cml_check.specs.StmtViews.{plain_effect, plain_source}
use Rattle.cml_check.specs.Layout.{left}
use Rattle.cml_check.specs.Follows.{Follows}
use Rattle.cml_check.specs.InstrViews.{plain_instr}
use Rattle.cml_step.specs.Callers.{calls_on}
use Rattle.cml_step.specs.Calls.{text_of, variables_of}
use Rattle.cml_step.proofs.CallLemmas.{at_statement}
use Rattle.cml_step.proofs.quick.cross.Goals as goal

pub returns-in-Call-clause-goes : goal.returns-in-Call-clause-goes
returns-in-Call-clause-goes c = λ on self below room.
    let p = c.args.program.now in
    let f = c.args.f.now in
    let at = c.args.call.now.at in
    at_statement (text_of p) self f (variables_of f c.args.call.now) (calls_on p c.args.callers.now.items below) at
    (let_be c.in-Let.slot (effect (plain_effect c.in-Effect.effect))) (left f.body c.in-Let.next)
    (subst (λ s. left f.body at ≡ stmts_and (let_be c.in-Let.slot (plain_source s)) (left f.body c.in-Let.next)) c.in-Effect.is
    (subst (λ i. Follows (left f.body) (plain_instr i) (left f.body at)) c.in-Let.is c.requires.here))
    ∙ rw c.in-Call.is (c.let_call.ensures.goes on self below room)

pub returns-in-Call-effect-clause-goes : goal.returns-in-Call-effect-clause-goes
returns-in-Call-effect-clause-goes c = λ on self below room.
    let p = c.args.program.now in
    let f = c.args.f.now in
    let at = c.args.call.now.at in
    at_statement (text_of p) self f (variables_of f c.args.call.now) (calls_on p c.args.callers.now.items below) at
    (just_do (plain_effect c.in-Do.effect)) (left f.body c.in-Do.next)
    (subst (λ i. Follows (left f.body) (plain_instr i) (left f.body at)) c.in-Do.is c.requires.here)
    ∙ rw c.in-Call-effect.is (c.entered.ensures.goes on self below room)

pub returns-in-Return-clause-goes : goal.returns-in-Return-clause-goes
returns-in-Return-clause-goes c = λ on self below room.
    let p = c.args.program.now in
    let f = c.args.f.now in
    let at = c.args.call.now.at in
    let follows = subst (λ i. Follows (left f.body) (plain_instr i) (left f.body at)) c.in-Return.is c.requires.here in
    at_statement (text_of p) self f (variables_of f c.args.call.now) (calls_on p c.args.callers.now.items below) at (return_with c.in-Return.e) follows.0 follows.1
    ∙ c.gave_back.ensures.goes on self (stmts_map (name_at f.names) follows.0) below
