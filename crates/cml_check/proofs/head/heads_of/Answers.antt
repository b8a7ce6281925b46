use Rattle.std.proofs.Common.{◌≡◌, ◌∙◌, sym, ap, arith, true, false}
use Rattle.std.proofs.lemmas.Result.{err_from_is_err_and}
use Rattle.std.proofs.lemmas.List.{map_push, length-map}
use Rattle.cml_check.specs.Names.{has_name}
use Rattle.cml_check.specs.HeadViews.{plain_head, plain_heads, head_names}
use Rattle.cml_check.proofs.HeadLemmas.{head-fails, head-limit, head-double, head-next, head-end, names-push}
use Rattle.cml_check.proofs.head.heads_of.Goals as goal

pub returns-then-len-ge-FUNCTION_LIMIT : goal.returns-then-len-ge-FUNCTION_LIMIT
returns-then-len-ge-FUNCTION_LIMIT c =
    rw c.fault_at.ensures (head-limit (plain_heads c.loop-form.items.items) c.args.forms.now c.loop-form.form-index
    c.form-item.result _ c.loop-form-test.true c.form-item.is (rw length-map (omega arith))
    c.loop-form.invariant.left)

pub returns-in_err-head : goal.returns-in_err-head
returns-in_err-head c =
    let p = err_from_is_err_and c.from_residual.result c.from_residual.ensures.1 in
    rw (p.1, p.2) (head-fails c.in_err-head.field-0.0 (plain_heads c.loop-form.items.items) c.args.forms.now
    c.loop-form.form-index c.form-item.result _ c.loop-form-test.true c.form-item.is (rw length-map (omega arith))
    c.loop-form.invariant.left c.in_err-head.ensures)

pub returns-then-has : goal.returns-then-has
returns-then-has c =
    let test : has_name (head_names (plain_heads c.loop-form.items.items)) c.in_ok-head.head.name.now ≡ true =
    ap (λ names. has_name names c.in_ok-head.head.name.now) (sym c.loop-form.invariant.named) ∙ sym c.has.ensures ∙ c.if-has.true in
    head-double (plain_heads c.loop-form.items.items) c.args.forms.now c.loop-form.form-index c.form-item.result
    (plain_head c.in_ok-head.head) _ c.loop-form-test.true c.form-item.is (rw length-map (omega arith))
    c.loop-form.invariant.left c.in_ok-head.ensures test

pub loop-form-preserved : goal.loop-form-preserved
loop-form-preserved c =
    let new : has_name c.loop-form.names c.in_ok-head.head.name.now ≡ false = sym c.has.ensures ∙ c.if-has.false in
    let test : has_name (head_names (plain_heads c.loop-form.items.items)) c.in_ok-head.head.name.now ≡ false =
    ap (λ names. has_name names c.in_ok-head.head.name.now) (sym c.loop-form.invariant.named) ∙ new in
    let next = head-next (plain_heads c.loop-form.items.items) c.args.forms.now c.loop-form.form-index
    c.form-item.result (plain_head c.in_ok-head.head) _ c.loop-form-test.true c.form-item.is
    (rw length-map (omega arith)) c.loop-form.invariant.left c.in_ok-head.ensures test in
    record {
      left = rw (c.in_ok-push.ensures.items, map_push plain_head c.loop-form.items.items c.in_ok-head.head) next;
      named = rw (c.in_ok-push.ensures.items) (c.in_ok-declare.ensures.names ∙ names-push c.loop-form.items.items c.in_ok-head.head c.loop-form.names c.loop-form.invariant.named new);
      few = omega arith;
    }

pub returns : goal.returns
returns c = head-end (plain_heads c.loop-form.items.items) c.args.forms.now c.loop-form.form-index _ (omega (arith, c.loop-form-test.false)) c.loop-form.invariant.left
