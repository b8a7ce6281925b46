use Rattle.std.proofs.Common.{◌≡◌, ◌≤◌, ◌∙◌, ap, sym, length, arith}
use Rattle.std.proofs.lemmas.Bool.Decides.{nat_tests}
use Rattle.cml_text.specs.Forms.{span_of}
use Rattle.cml_trace.specs.ValueForms.{value_from}
use Rattle.cml_trace.proofs.FormLemmas.{value_from-one, value_from-long}
use Rattle.cml_trace.proofs.form.+value_from.Goals.{in_default-via-then-parts-lt2, in_default-via-else-parts-lt2+else-parts-lt3+else-parts-lt4}
use Rattle.cml_trace.proofs.form.+value_from.Goals as goal

-- a list of 1 form, or of more than 3, is no value
pub returns-in_default : goal.returns-in_default
returns-in_default t c =
    elim c.in_default.branch [
      | in_default-via-then-parts-lt2 w ↦
          let one : length c.in-List.parts.now ≡ 1 = grind (arith, nat_tests) in
          value_from-one (span_of c.args.form.now) c.in-List.parts.now one ∙ ap value_from (sym c.in-List.ensures)
      | in_default-via-else-parts-lt2+else-parts-lt3+else-parts-lt4 w ↦
          let long : 4 ≤ length c.in-List.parts.now = grind (arith, nat_tests) in
          value_from-long (span_of c.args.form.now) c.in-List.parts.now long ∙ ap value_from (sym c.in-List.ensures)
    ]
