use Rattle.std.proofs.Common.{◌≡◌, subst, sym, ◌∙◌, []}
use Rattle.cml_check.specs.Syntax.{let_be, set_to, value, stmts_and}
use Rattle.cml_check.specs.StmtViews.{plain_source}
use Rattle.cml_check.specs.Layout.{left}
use Rattle.cml_check.specs.Follows.{Follows}
use Rattle.cml_check.specs.InstrViews.{plain_instr}
use Rattle.cml_step.specs.Calls.{text_of, variables_of}
use Rattle.cml_step.proofs.CallLemmas.{at_statement, chosen_at, looped_at}
use Rattle.cml_step.proofs.QuietLemmas.{went, stayed}
use Rattle.cml_step.proofs.UndoLemmas.{unset_same}
use Rattle.cml_step.proofs.plain.instr_done.Goals as goal

pub returns-in-Value-clause-goes : goal.returns-in-Value-clause-goes
returns-in-Value-clause-goes c = λ on self below.
    let f = c.args.f.now in
    at_statement (text_of c.args.program.now) self f (variables_of f c.args.call.now) below c.args.call.now.at
    (let_be c.in-Let.slot (value c.in-Value.e)) (left f.body c.in-Let.next)
    (subst (λ s. left f.body c.args.call.now.at ≡ stmts_and (let_be c.in-Let.slot (plain_source s)) (left f.body c.in-Let.next)) c.in-Value.is
    (subst (λ i. Follows (left f.body) (plain_instr i) (left f.body c.args.call.now.at)) c.in-Let.is c.requires.here))
    ∙ c.assigned.ensures.goes on self below

pub returns-in-Set-clause-goes : goal.returns-in-Set-clause-goes
returns-in-Set-clause-goes c = λ on self below.
    let f = c.args.f.now in
    at_statement (text_of c.args.program.now) self f (variables_of f c.args.call.now) below c.args.call.now.at
    (set_to c.in-Set.slot c.in-Set.e) (left f.body c.in-Set.next)
    (subst (λ i. Follows (left f.body) (plain_instr i) (left f.body c.args.call.now.at)) c.in-Set.is c.requires.here)
    ∙ c.assigned-in-Set.ensures.goes on self below

pub returns-in-If-clause-goes : goal.returns-in-If-clause-goes
returns-in-If-clause-goes c = λ on self below.
    let f = c.args.f.now in
    went f c.choose.result c.args.call.now c.choose.new.call below _ (sym c.is_ok.ensures.value ∙ on)
    (chosen_at (text_of c.args.program.now) self f (variables_of f c.args.call.now) below c.choose.result c.args.call.now c.choose.new.call c.args.call.now.at
    c.in-If.e c.in-If.yes c.in-If.no
    (subst (λ i. Follows (left f.body) (plain_instr i) (left f.body c.args.call.now.at)) c.in-If.is c.requires.here)
    (c.choose.ensures.steps below))

pub returns-in-If-clause-stays : goal.returns-in-If-clause-stays
returns-in-If-clause-stays c = λ off.
    stayed c.args.f.now c.choose.result c.args.call.now c.choose.new.call [] _ (sym c.is_ok.ensures.value ∙ off) (c.choose.ensures.steps [])

pub returns-in-While-clause-goes : goal.returns-in-While-clause-goes
returns-in-While-clause-goes c = λ on self below.
    let f = c.args.f.now in
    went f c.choose-in-While.result c.args.call.now c.choose-in-While.new.call below _ (sym c.is_ok-in-While.ensures.value ∙ on)
    (looped_at (text_of c.args.program.now) self f (variables_of f c.args.call.now) below c.choose-in-While.result c.args.call.now c.choose-in-While.new.call c.args.call.now.at
    c.in-While.e c.in-While.body c.in-While.next
    (subst (λ i. Follows (left f.body) (plain_instr i) (left f.body c.args.call.now.at)) c.in-While.is c.requires.here)
    (c.choose-in-While.ensures.steps below))

pub returns-in-While-clause-stays : goal.returns-in-While-clause-stays
returns-in-While-clause-stays c = λ off.
    stayed c.args.f.now c.choose-in-While.result c.args.call.now c.choose-in-While.new.call [] _ (sym c.is_ok-in-While.ensures.value ∙ off) (c.choose-in-While.ensures.steps [])

pub returns-in-If-clause-noted : goal.returns-in-If-clause-noted
returns-in-If-clause-noted c = λ on. unset_same c.args.sets.now.items c.args.call.now c.choose.new.call c.choose.ensures.slots c.choose.ensures.kept.same

pub returns-in-While-clause-noted : goal.returns-in-While-clause-noted
returns-in-While-clause-noted c = λ on. unset_same c.args.sets.now.items c.args.call.now c.choose-in-While.new.call c.choose-in-While.ensures.slots c.choose-in-While.ensures.kept.same
