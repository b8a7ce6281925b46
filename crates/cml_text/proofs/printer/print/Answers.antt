use Rattle.std.proofs.Common.{◌++◌, ap, ◌∙◌, arith}
use Rattle.std.specs.String.{string_bytes}
use Rattle.cml_text.proofs.PrintLemmas.{form_next}
use Rattle.cml_text.proofs.printer.print.Goals as goal

pub loop-form-preserved : goal.loop-form-preserved
loop-form-preserved c = form_next _ _ _ c.args.forms.now c.loop-form.form-index c.form-item.result c.loop-form-test.true
    c.form-item.is c.loop-form.invariant c.in_ok-push_to.ensures
    (c.in_ok-push.ensures.bytes ∙ ap (λ e. string_bytes c.push_to.new.text ++ e)
    (c.in_ok-push.ensures.ascii (omega arith)))
