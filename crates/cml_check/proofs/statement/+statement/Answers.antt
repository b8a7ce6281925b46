use Rattle.std.proofs.Common.{rules, ◌∙◌, ◌≤◌, sym, ap, arith, map, Ok}
use Rattle.std.proofs.lemmas.Result.{err_from_is_err_and}
use Rattle.std.proofs.lemmas.List.{map_push}
use Rattle.cml_text.specs.Forms.{nesting, nesting_of, plain_forms}
use Rattle.cml_check.specs.Syntax.{stmt_map, name_at}
use Rattle.cml_check.specs.Heads.{arities_of}
use Rattle.cml_check.specs.Statements.{stmt_by}
use Rattle.cml_check.specs.StatementParts.{do_in, Grows}
use Rattle.cml_check.proofs.ExpressionLemmas.{member-below}
use Rattle.cml_check.proofs.GrowthLemmas.{count-fails, stmt-fails, stmt-next, stmt-end, stmts-map, items-grown, stmts-fit_push, grows-on}
use Rattle.cml_check.proofs.StatementWalk.{if_gives, if_fits, tested_gives, tested_fits}
use Rattle.cml_check.proofs.statement.+statement.Goals as goal

pub list_statement-returns-in_default-clause-gives : goal.list_statement-returns-in_default-clause-gives
unfolding stmt_by do_in
list_statement-returns-in_default-clause-gives t c = search rules

pub branch-returns-clause-gives : goal.branch-returns-clause-gives
branch-returns-clause-gives t c =
    if_gives (arities_of c.args.heads.now) c.args.heads.now c.args.scope.now c.block.new.scope c.block-2.new.scope
    c.args.condition.now c.args.then.now c.args.other.now c.in_ok-condition.condition c.in_ok-then.then
    c.in_ok-other.other
    c.in_ok-condition.ensures.gives c.in_ok-condition.ensures.fits c.in_ok-then.ensures.gives c.in_ok-then.ensures.fits
    c.in_ok-then.ensures.grows c.in_ok-other.ensures.gives c.in_ok-other.ensures.grows

pub branch-returns-clause-fits : goal.branch-returns-clause-fits
branch-returns-clause-fits t c =
    if_fits (arities_of c.args.heads.now) c.args.scope.now.names c.block.new.scope.names c.block-2.new.scope.names c.in_ok-condition.condition c.in_ok-then.then c.in_ok-other.other
    c.in_ok-condition.ensures.fits c.in_ok-then.ensures.fits c.in_ok-other.ensures.fits c.in_ok-then.ensures.grows c.in_ok-other.ensures.grows

pub branch-returns-clause-grows : goal.branch-returns-clause-grows
branch-returns-clause-grows t c = grows-on _ _ _ c.in_ok-then.ensures.grows c.in_ok-other.ensures.grows

pub tested-returns-clause-gives : goal.tested-returns-clause-gives
tested-returns-clause-gives t c =
    rw c.tested_stmt.ensures (tested_gives (arities_of c.args.heads.now) c.args.heads.now c.args.scope.now
    c.statements.new.scope c.args.word c.args.condition.now (plain_forms c.args.body.now)
    c.in_ok-condition.condition c.in_ok-body.body
    c.in_ok-condition.ensures.gives c.in_ok-condition.ensures.fits c.in_ok-body.ensures.gives c.in_ok-body.ensures.grows)

pub tested-returns-clause-fits : goal.tested-returns-clause-fits
tested-returns-clause-fits t c =
    rw c.tested_stmt.ensures (tested_fits (arities_of c.args.heads.now) c.args.scope.now.names
    c.statements.new.scope.names c.args.word c.in_ok-condition.condition c.in_ok-body.body
    c.in_ok-condition.ensures.fits c.in_ok-body.ensures.fits c.in_ok-body.ensures.grows)

-- a form of the list lies lower than the list
pub statements-statement-requires : goal.statements-statement-requires
statements-statement-requires t c =
    let below : nesting c.form-item.result ≤ nesting_of (plain_forms c.args.forms.now) =
    member-below c.args.forms.now c.loop-form.form-index c.form-item.result c.loop-form-test.true c.form-item.is in
    let start = c.decreases in
    (omega arith, tt)

pub statements-returns-in_err-count_statement-clause-gives : goal.statements-returns-in_err-count_statement-clause-gives
statements-returns-in_err-count_statement-clause-gives t c =
    let p = err_from_is_err_and c.from_residual.result c.from_residual.ensures.1 in
    rw (p.1, p.2) (count-fails c.in_err-count_statement.field-0.0 c.args.heads.now c.loop-form.scope c.args.forms.now
    c.loop-form.form-index c.form-item.result
    (map (stmt_map (name_at c.loop-form.scope.names)) c.loop-form.items.items) _
    c.loop-form-test.true c.form-item.is c.loop-form.invariant.left c.in_err-count_statement.ensures.gives)

pub statements-returns-in_err-statement-clause-gives : goal.statements-returns-in_err-statement-clause-gives
statements-returns-in_err-statement-clause-gives t c =
    let p = err_from_is_err_and c.from_residual-in_err-statement.result c.from_residual-in_err-statement.ensures.1 in
    rw (p.1, p.2) (stmt-fails c.in_err-statement.field-0.0 c.args.heads.now c.loop-form.scope
    c.count_statement.new.scope c.args.forms.now c.loop-form.form-index c.form-item.result
    (map (stmt_map (name_at c.loop-form.scope.names)) c.loop-form.items.items) _
    c.loop-form-test.true c.form-item.is c.loop-form.invariant.left c.in_ok-count_statement.ensures.gives c.in_err-statement.ensures.gives)

pub statements-loop-form-preserved : goal.statements-loop-form-preserved
statements-loop-form-preserved t c =
    let new = c.statement.new.scope in
    let counted_on : Grows c.loop-form.scope.names new.names = rw (← c.in_ok-count_statement.ensures.names) c.in_ok-statement.ensures.grows in
    let grown = items-grown (arities_of c.args.heads.now) c.loop-form.scope.names new.names counted_on c.loop-form.items.items c.loop-form.invariant.fits in
    let next = stmt-next c.args.heads.now c.loop-form.scope c.count_statement.new.scope new c.args.forms.now
    c.loop-form.form-index c.form-item.result
    (map (stmt_map (name_at c.loop-form.scope.names)) c.loop-form.items.items) _ _
    c.loop-form-test.true c.form-item.is c.loop-form.invariant.left c.in_ok-count_statement.ensures.gives c.in_ok-statement.ensures.gives in
    record {
      left = rw (c.in_ok-push.ensures.items, map_push (stmt_map (name_at new.names)) c.loop-form.items.items, ← grown.0) next;
      fits = rw c.in_ok-push.ensures.items (stmts-fit_push _ _ c.loop-form.items.items _ grown.1 c.in_ok-statement.ensures.fits);
      grows = grows-on _ _ _ c.loop-form.invariant.grows counted_on;
    }

pub statements-returns-clause-gives : goal.statements-returns-clause-gives
statements-returns-clause-gives t c =
    stmt-end c.args.heads.now c.loop-form.scope c.args.forms.now c.loop-form.form-index
    (map (stmt_map (name_at c.loop-form.scope.names)) c.loop-form.items.items) _
    (omega (arith, c.loop-form-test.false)) c.loop-form.invariant.left
    ∙ ap (λ ss. Ok (ss, c.loop-form.scope)) (sym (stmts-map (name_at c.loop-form.scope.names) c.loop-form.items.items))
