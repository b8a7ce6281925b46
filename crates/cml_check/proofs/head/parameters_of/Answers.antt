use Rattle.std.proofs.Common.{◌≡◌, ◌∙◌, sym, arith, true, false}
use Rattle.std.proofs.lemmas.Result.{err_from_is_err_and}
use Rattle.cml_check.specs.Names.{has_name}
use Rattle.cml_check.proofs.HeadLemmas.{parameter-fails, parameter-next, parameter-end}
use Rattle.cml_check.proofs.head.parameters_of.Goals as goal

pub returns-in_err-name : goal.returns-in_err-name
returns-in_err-name c =
    let p = err_from_is_err_and c.from_residual.result c.from_residual.ensures.1 in
    rw (p.1, p.2) (parameter-fails c.in_err-name.field-0.0 c.loop-form.names c.args.forms.now c.loop-form.form-index
    c.form-item.result _ c.loop-form-test.true c.form-item.is c.loop-form.invariant c.in_err-name.ensures)

pub returns-then-has : goal.returns-then-has
returns-then-has c =
    let step = parameter-next c.loop-form.names c.args.forms.now c.loop-form.form-index c.form-item.result
    c.in_ok-name.name.now _ c.loop-form-test.true c.form-item.is c.loop-form.invariant c.in_ok-name.ensures in
    let test : has_name c.loop-form.names c.in_ok-name.name.now ≡ true = sym c.has.ensures ∙ c.if-has.true in
    let at = rw test at step in
    rw (c.fault_at.ensures) (sym at)

pub loop-form-preserved : goal.loop-form-preserved
loop-form-preserved c =
    let step = parameter-next c.loop-form.names c.args.forms.now c.loop-form.form-index c.form-item.result
    c.in_ok-name.name.now _ c.loop-form-test.true c.form-item.is c.loop-form.invariant c.in_ok-name.ensures in
    let test : has_name c.loop-form.names c.in_ok-name.name.now ≡ false = sym c.has.ensures ∙ c.if-has.false in
    rw (c.in_ok-declare.ensures.names, test) (rw test at step)

pub returns : goal.returns
returns c = parameter-end c.loop-form.names c.args.forms.now c.loop-form.form-index _ (omega (arith, c.loop-form-test.false)) c.loop-form.invariant
