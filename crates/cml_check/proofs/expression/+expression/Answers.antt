use Rattle.std.proofs.Common.{rules, ◌∙◌, ◌≤◌, sym, ap, arith, map, Ok}
use Rattle.std.proofs.lemmas.Result.{err_from_is_err_and}
use Rattle.std.proofs.lemmas.List.{map_push, length-append}
use Rattle.cml_text.specs.Forms.{nesting, nesting_of, plain_forms}
use Rattle.cml_check.specs.Syntax.{expr_map, name_at}
use Rattle.cml_check.specs.Expressions.{list_in}
use Rattle.cml_check.proofs.ExpressionLemmas.{expr-fails, expr-next, expr-end, exprs-map, exprs-count, exprs-fit_push, count_forms, member-below}
use Rattle.cml_check.proofs.expression.+expression.Goals as goal

-- a form of the list lies lower than the list
pub expressions-expression-requires : goal.expressions-expression-requires
expressions-expression-requires t c =
    let below : nesting c.form-item.result ≤ nesting_of (plain_forms c.args.forms.now) =
    member-below c.args.forms.now c.loop-form.form-index c.form-item.result c.loop-form-test.true c.form-item.is in
    let start = c.decreases in
    (omega arith, tt)

pub expressions-returns-in_err-expression-clause-gives : goal.expressions-returns-in_err-expression-clause-gives
expressions-returns-in_err-expression-clause-gives t c =
    let p = err_from_is_err_and c.from_residual.result c.from_residual.ensures.1 in
    rw (p.1, p.2) (expr-fails c.in_err-expression.field-0.0 c.args.heads.now c.args.names.now c.args.forms.now
    c.loop-form.form-index c.form-item.result (map (expr_map (name_at c.args.names.now)) c.loop-form.items.items) _
    c.loop-form-test.true c.form-item.is c.loop-form.invariant.left c.in_err-expression.ensures.gives)

pub expressions-loop-form-preserved : goal.expressions-loop-form-preserved
expressions-loop-form-preserved t c =
    let next = expr-next c.args.heads.now c.args.names.now c.args.forms.now c.loop-form.form-index c.form-item.result (map (expr_map (name_at c.args.names.now)) c.loop-form.items.items) _ _
    c.loop-form-test.true c.form-item.is c.loop-form.invariant.left c.in_ok-expression.ensures.gives in
    record {
      left = rw (c.in_ok-push.ensures.items, map_push (expr_map (name_at c.args.names.now)) c.loop-form.items.items) next;
      fits = rw c.in_ok-push.ensures.items (exprs-fit_push _ _ c.loop-form.items.items _ c.loop-form.invariant.fits c.in_ok-expression.ensures.fits);
      count = rw (c.in_ok-push.ensures.items, length-append) (omega arith);
    }

pub expressions-returns-clause-gives : goal.expressions-returns-clause-gives
expressions-returns-clause-gives t c =
    expr-end c.args.heads.now c.args.names.now c.args.forms.now c.loop-form.form-index
    (map (expr_map (name_at c.args.names.now)) c.loop-form.items.items) _ (omega (arith, c.loop-form-test.false))
    c.loop-form.invariant.left
    ∙ ap (λ es. Ok es) (sym (exprs-map (name_at c.args.names.now) c.loop-form.items.items))

pub expressions-returns-clause-count : goal.expressions-returns-clause-count
expressions-returns-clause-count t c =
    exprs-count c.loop-form.items.items ∙ omega (arith, count_forms c.args.forms.now)

pub list_expression-returns-in_default-clause-gives : goal.list_expression-returns-in_default-clause-gives
unfolding list_in
list_expression-returns-in_default-clause-gives t c = search rules
