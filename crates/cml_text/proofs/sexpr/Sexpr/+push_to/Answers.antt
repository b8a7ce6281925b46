use Rattle.std.proofs.Common.{◌++◌, rules, sym, ap, ◌∙◌, arith}
use Rattle.std.specs.String.{string_bytes}
use Rattle.std.proofs.lemmas.Bool.Decides.{nat_tests}
use Rattle.cml_text.specs.Printed.{printed_form}
use Rattle.cml_text.proofs.PrintLemmas.{first_member, later_member}
use Rattle.cml_text.proofs.sexpr.Sexpr.+push_to.Goals as goal
use Rattle.cml_text.proofs.sexpr.Sexpr.+push_to.Goals.{then-not-is_first+in_ok-push-in-List-2, else-not-is_first}

pub loop-form-preserved : goal.loop-form-preserved
loop-form-preserved t c = (
  grind (arith, nat_tests),
  elim c.if-not-is_first.branch [
    | then-not-is_first+in_ok-push-in-List-2 w ↦
        later_member _ _ (string_bytes w.push-then-not-is_first.new.self) _ c.deref-form-items.result.now c.loop-form.form-index c.form-item.result
        (sym c.loop-form.invariant.0 ∙ (search rules)) c.loop-form-test.true c.form-item.is c.loop-form.invariant.1
        (w.in_ok-push-in-List-2.ensures.bytes ∙ ap (λ e. string_bytes c.loop-form.text ++ e) (w.in_ok-push-in-List-2.ensures.ascii (omega arith)))
        (c.in_ok-push_to-in-List.ensures ∙ ap (λ s. string_bytes s ++ printed_form c.form-item.result) w.text-is)
    | else-not-is_first w ↦
        first_member _ _ _ c.deref-form-items.result.now c.loop-form.form-index c.form-item.result
        (sym c.loop-form.invariant.0 ∙ (search rules)) c.loop-form-test.true c.form-item.is c.loop-form.invariant.1
        (c.in_ok-push_to-in-List.ensures ∙ ap (λ s. string_bytes s ++ printed_form c.form-item.result) w.text-is)
  ],
)
