use Rattle.std.proofs.Common.{◌≡◌, ◌+◌, ◌≤◌, ℕ, ap, sym, subst, arith}
use Rattle.cml_text.specs.Forms.{PlainSexpr, plain_forms, nesting, nesting_of}
use Rattle.cml_properties.proofs.FitLemmas.{nesting_at}
use Rattle.cml_properties.proofs.words.+write_form.Goals as goal

-- a form of the list lies lower than the list
pub write_form-requires : goal.write_form-requires
write_form-requires g t c = λ κs within.
    let depth : ℕ = nesting_of (plain_forms c.in-List.forms.now) in
    let below : nesting c.index-forms-index.result ≤ depth =
    subst (λ (form : PlainSexpr). nesting form ≤ depth) (sym c.index-forms-index.is)
    (nesting_at c.in-List.forms.now c.loop-index.index c.index-forms-index.result c.loop-index-test.true) in
    let whole : nesting c.args.form.now ≡ depth + 1 = ap nesting c.in-List.ensures in
    let start = c.decreases in
    (omega arith, within)
