use Rattle.std.proofs.Common.{◌≡◌, sym, arith, length, map, refl, subst}
use Rattle.std.specs.Prelude.{All, List}
use Rattle.std.proofs.lemmas.Result.{err_from_is_err_and}
use Rattle.std.proofs.lemmas.List.{map_push}
use Rattle.std.proofs.lemmas.List.Elements.{All-push}
use Rattle.cml_check.specs.Syntax.{written}
use Rattle.cml_check.specs.Heads.{arities_of}
use Rattle.cml_check.specs.InOrder.{FunctionFits, arities}
use Rattle.cml_check.specs.Shape.{functions_in}
use Rattle.cml_check.proofs.FunctionLemmas.{front_nil, function-fails, function-next, function-end, had-next, had-end}
use Rattle.cml_check.specs.HeadViews.{plain_head}
use Rattle.cml_check.proofs.SizeLemmas.{count-next}
use Rattle.cml_check.proofs.checker.functions.Goals as goal

pub loop-head-init : goal.loop-head-init
loop-head-init c = record {
  whole = c.as_slice-head-items.ensures.heads;
  left = rw (c.new-items.ensures.items, c.as_slice-head-items.ensures.heads) (front_nil (functions_in c.args.heads.now 0 c.args.heads.now));
  counted = rw (c.new-items.ensures.items) refl;
  few = omega arith;
  fits = rw (c.new-items.ensures.items) (λ k d lt. absurd (omega arith));
  named = rw (c.new-items.ensures.items, c.as_slice-head-items.ensures.heads) refl;
  same = rw (c.new-items.ensures.items, c.as_slice-head-items.ensures.heads) refl;
}

pub returns-in_err-function-clause-gives : goal.returns-in_err-function-clause-gives
returns-in_err-function-clause-gives c =
    let p = err_from_is_err_and c.from_residual.result c.from_residual.ensures.1 in
    rw (p.1, p.2) (function-fails c.in_err-function.field-0.0 c.args.heads.now c.loop-head.statements
    c.as_slice-head-items.result.now c.loop-head.head-index c.head-item.result (map written c.loop-head.items.items)
    _
    c.loop-head-test.true c.head-item.is c.loop-head.invariant.left c.in_err-function.ensures.gives)

pub loop-head-preserved : goal.loop-head-preserved
loop-head-preserved c =
    let next = function-next c.args.heads.now c.loop-head.statements c.function.new.count
    c.as_slice-head-items.result.now c.loop-head.head-index c.head-item.result
    (map written c.loop-head.items.items) (written c.in_ok-function.field-0) _
    c.loop-head-test.true c.head-item.is c.loop-head.invariant.left c.in_ok-function.ensures.gives in
    let count = count-next c.args.heads.now (plain_head c.head-item.result) c.loop-head.statements c.function.new.count c.loop-head.items.items c.in_ok-function.field-0
    c.in_ok-function.ensures.gives c.loop-head.invariant.counted c.loop-head.invariant.few in
    record {
      counted = rw c.in_ok-push.ensures.items count.0;
      few = count.1;
      whole = c.loop-head.invariant.whole;
      left = rw (c.in_ok-push.ensures.items, map_push written c.loop-head.items.items c.in_ok-function.field-0) next;
      fits = rw c.in_ok-push.ensures.items
          (All-push (FunctionFits (arities_of c.args.heads.now)) c.loop-head.items.items c.in_ok-function.field-0
          c.loop-head.invariant.fits c.in_ok-function.ensures.fits);
      named = rw c.in_ok-push.ensures.items
          (had-next (λ f. f.name) (λ head. head.name) c.as_slice-head-items.result.now c.loop-head.head-index c.head-item.result c.loop-head.items.items c.in_ok-function.field-0 _
          c.loop-head-test.true c.head-item.is c.loop-head.invariant.named c.in_ok-function.ensures.name);
      same = rw c.in_ok-push.ensures.items
          (had-next (λ f. f.arity) (λ head. length head.parameters) c.as_slice-head-items.result.now c.loop-head.head-index c.head-item.result c.loop-head.items.items
          c.in_ok-function.field-0 _ c.loop-head-test.true c.head-item.is c.loop-head.invariant.same c.in_ok-function.ensures.arity);
    }

pub returns-clause-gives : goal.returns-clause-gives
returns-clause-gives c =
    function-end c.args.heads.now c.loop-head.statements c.as_slice-head-items.result.now c.loop-head.head-index
    (map written c.loop-head.items.items) _ (omega (arith, c.loop-head-test.false)) c.loop-head.invariant.left

pub returns-clause-arities : goal.returns-clause-arities
returns-clause-arities c =
    had-end (λ f. f.arity) (λ head. length head.parameters) c.as_slice-head-items.result.now c.loop-head.head-index c.loop-head.items.items _
    (omega (arith, c.loop-head-test.false)) c.loop-head.invariant.same

pub returns-clause-order : goal.returns-clause-order
returns-clause-order c =
    let same : arities c.loop-head.items.items ≡ arities_of c.args.heads.now = returns-clause-arities c in
    subst (λ (ar : List _). All (FunctionFits ar) c.loop-head.items.items) (sym same) c.loop-head.invariant.fits

pub returns-clause-names : goal.returns-clause-names
returns-clause-names c =
    had-end (λ f. f.name) (λ head. head.name) c.as_slice-head-items.result.now c.loop-head.head-index c.loop-head.items.items _
    (omega (arith, c.loop-head-test.false)) c.loop-head.invariant.named
