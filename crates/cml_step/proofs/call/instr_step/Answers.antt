use Rattle.std.proofs.Common.{subst}
use Rattle.cml_check.specs.Syntax.{let_be, set_to, just_do}
use Rattle.cml_check.specs.StmtViews.{plain_effect, plain_source}
use Rattle.cml_check.specs.InOrder.{arities}
use Rattle.cml_check.specs.Layout.{left}
use Rattle.cml_check.specs.Follows.{Follows}
use Rattle.cml_check.specs.InstrViews.{plain_instr}
use Rattle.cml_step.specs.Calls.{text_of, variables_of}
use Rattle.cml_step.proofs.CallLemmas.{moves_at, steps_at, chosen_at, looped_at, runs_on_stays}
use Rattle.cml_step.proofs.call.instr_step.Goals as goal

pub returns-in-Let-clause-moves : goal.returns-in-Let-clause-moves
returns-in-Let-clause-moves c = λ below.
    let f = c.args.f.now in
    moves_at c.args.program.now c.args.thread.0 f (variables_of f c.args.call.now) below c.let_step.result c.let_step.new.call c.args.call.now.at
    (let_be c.in-Let.slot (plain_source c.in-Let.source)) (left f.body c.in-Let.next)
    (subst (λ i. Follows (left f.body) (plain_instr i) (left f.body c.args.call.now.at)) c.in-Let.is c.requires.here)
    (c.let_step.ensures.moves below)

pub returns-in-Set-clause-moves : goal.returns-in-Set-clause-moves
returns-in-Set-clause-moves c = λ below.
    let f = c.args.f.now in
    c.went_on.ensures.moves c.args.program.now f c.args.call.now c.assign.new.call below _
    (steps_at (text_of c.args.program.now) c.args.thread.0 f (variables_of f c.args.call.now) below c.assign.result c.args.call.now c.assign.new.call c.args.call.now.at
    (set_to c.in-Set.slot c.in-Set.e) (left f.body c.in-Set.next)
    (subst (λ i. Follows (left f.body) (plain_instr i) (left f.body c.args.call.now.at)) c.in-Set.is c.requires.here)
    (c.assign.ensures.steps c.args.thread.0 below))

pub returns-in-Do-clause-moves : goal.returns-in-Do-clause-moves
returns-in-Do-clause-moves c = λ below.
    let f = c.args.f.now in
    moves_at c.args.program.now c.args.thread.0 f (variables_of f c.args.call.now) below c.drop_effect.result c.drop_effect.new.call c.args.call.now.at
    (just_do (plain_effect c.in-Do.effect)) (left f.body c.in-Do.next)
    (subst (λ i. Follows (left f.body) (plain_instr i) (left f.body c.args.call.now.at)) c.in-Do.is c.requires.here)
    (c.drop_effect.ensures.moves below)

pub returns-in-If-clause-moves : goal.returns-in-If-clause-moves
returns-in-If-clause-moves c = λ below.
    let f = c.args.f.now in
    c.went_on-in-If.ensures.moves c.args.program.now f c.args.call.now c.choose.new.call below _
    (chosen_at (text_of c.args.program.now) c.args.thread.0 f (variables_of f c.args.call.now) below c.choose.result c.args.call.now c.choose.new.call c.args.call.now.at
    c.in-If.e c.in-If.yes c.in-If.no
    (subst (λ i. Follows (left f.body) (plain_instr i) (left f.body c.args.call.now.at)) c.in-If.is c.requires.here)
    (c.choose.ensures.steps below))

pub returns-in-While-clause-moves : goal.returns-in-While-clause-moves
returns-in-While-clause-moves c = λ below.
    let f = c.args.f.now in
    c.went_on-in-While.ensures.moves c.args.program.now f c.args.call.now c.choose-in-While.new.call below _
    (looped_at (text_of c.args.program.now) c.args.thread.0 f (variables_of f c.args.call.now) below c.choose-in-While.result c.args.call.now c.choose-in-While.new.call c.args.call.now.at
    c.in-While.e c.in-While.body c.in-While.next
    (subst (λ i. Follows (left f.body) (plain_instr i) (left f.body c.args.call.now.at)) c.in-While.is c.requires.here)
    (c.choose-in-While.ensures.steps below))

pub returns-in-Set-clause-stays : goal.returns-in-Set-clause-stays
returns-in-Set-clause-stays c =
    let fs = arities c.args.program.now in
    runs_on_stays fs c.args.f.now c.went_on.result c.args.call.now c.assign.new.call c.assign.ensures.kept (c.went_on.ensures.did fs)

pub returns-in-If-clause-stays : goal.returns-in-If-clause-stays
returns-in-If-clause-stays c =
    let fs = arities c.args.program.now in
    runs_on_stays fs c.args.f.now c.went_on-in-If.result c.args.call.now c.choose.new.call c.choose.ensures.kept (c.went_on-in-If.ensures.did fs)

pub returns-in-While-clause-stays : goal.returns-in-While-clause-stays
returns-in-While-clause-stays c =
    let fs = arities c.args.program.now in
    runs_on_stays fs c.args.f.now c.went_on-in-While.result c.args.call.now c.choose-in-While.new.call c.choose-in-While.ensures.kept (c.went_on-in-While.ensures.did fs)
