use Rattle.std.proofs.Common.{sym, ◌∙◌}
use Rattle.cml_trace.specs.ValueForms.{value_from}
use Rattle.cml_trace.proofs.GivenLemmas.{onto-next}
use Rattle.cml_trace.proofs.form.values_from.Goals as goal

pub loop-form-preserved : goal.loop-form-preserved
loop-form-preserved c =
    rw c.in_ok-push.ensures.items (onto-next value_from c.args.forms.now c.loop-form.form-index c.form-item.result c.loop-form.values.items c.in-Some.value _
    c.loop-form-test.true c.form-item.is (sym c.in_ok-value.ensures ∙ c.in-Some.is) c.loop-form.invariant)
