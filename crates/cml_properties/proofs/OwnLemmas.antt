-- A value that is printed on a line matches itself.
use Rattle.std.proofs.Common.{◌≡◌, ℕ, true, false, List, [], ◌∷◌, Option, Some, None, refl, ap, sym, ◌∙◌, subst}
use Rattle.std.specs.Str.{bytes_eq}
use Rattle.std.proofs.lemmas.Bool.{or_right, and_from}
use Rattle.std.proofs.lemmas.Bool.Decides.{Decides-int_eq}
use Rattle.std.proofs.lemmas.Slice.Eq.{bytes_eq-Decides}
use Rattle.cml_text.specs.Forms.{PlainSexpr, plain_name, plain_int, plain_text, plain_list, PlainForms, no_forms, forms_and, plain_forms, without_spans, all_without_spans}
use Rattle.cml_text.specs.Laws.{PrintedLineIsRead, SpellsOneAtMost}
use Rattle.cml_text.specs.Printed.{printed_line}
use Rattle.cml_text.specs.Texts.{Spells}
use Rattle.cml_properties.specs.Lines.{PlainLine, IsValueOf}
use Rattle.cml_properties.specs.Laws.{MatchesItself}
use Rattle.cml_properties.specs.Patterns.{is_blank, fits, all_fit, fits_value, matches, is_text_pattern}

-- a form fits each form that is the same wherever the two stand
mutual
  fits_same : (form other : PlainSexpr) → without_spans other ≡ without_spans form → fits form other ≡ true
  fits_same (plain_name s a) (plain_name t b) e = let same : a ≡ b = cc in or_right (is_blank a) (bytes_eq a b) ((bytes_eq-Decides a b).1 same)
  fits_same (plain_int s a) (plain_int t b) e = let same : a ≡ b = cc in (Decides-int_eq a b).1 same
  fits_same (plain_text s a) (plain_text t b) e = let same : a ≡ b = cc in (bytes_eq-Decides a b).1 same
  fits_same (plain_list s as_) (plain_list t bs) e = all_fit_same as_ bs (cc)
  fits_same _ _ e = cc

  all_fit_same : (forms others : PlainForms) → all_without_spans others ≡ all_without_spans forms → all_fit forms others ≡ true
  all_fit_same no_forms no_forms e = refl
  all_fit_same (forms_and a as_) (forms_and b bs) e = and_from (fits a b) (all_fit as_ bs) (fits_same a b (cc)) (all_fit_same as_ bs (cc))
  all_fit_same _ _ e = cc

-- what is read of one form is one form
one_read : (form : PlainSexpr) (found : List PlainSexpr) → all_without_spans (plain_forms found) ≡ forms_and (without_spans form) no_forms →
    (other : PlainSexpr) × (found ≡ other ∷ []) × (without_spans other ≡ without_spans form)
one_read form [] e = cc
one_read form (other ∷ []) e = (other, refl, cc)
one_read form (other ∷ next ∷ found) e = cc

value_fits : SpellsOneAtMost → (form other : PlainSexpr) (text : List ℕ) (value : Option PlainSexpr) → Spells text (other ∷ []) → without_spans other ≡ without_spans form →
    IsValueOf text value → fits_value form value ≡ true
value_fits once form other text None spells same is = absurd (is other spells)
value_fits once form other text (Some given) spells same is =
    let both : given ∷ [] ≡ other ∷ [] = once text (given ∷ []) (other ∷ []) is spells in
    let one : given ≡ other = cc in
    fits_same form given (ap without_spans one ∙ same)

matches_by : (form : PlainSexpr) (line : PlainLine) → is_text_pattern form ≡ false → fits_value form line.value ≡ true → matches form line ≡ true
matches_by (plain_name s name) line e h = or_right (is_blank name) (fits_value (plain_name s name) line.value) h
matches_by (plain_int s z) line e h = h
matches_by (plain_text s content) line e h = cc
matches_by (plain_list s forms) line e h = h

pub matches_itself : PrintedLineIsRead → SpellsOneAtMost → MatchesItself
matches_itself read once form line within short text is value =
    let found = read (form ∷ []) within short in
    let one = one_read form found.0 found.2 in
    let spells : Spells line.text (one.0 ∷ []) =
    subst (λ (bytes : List ℕ). Spells bytes (one.0 ∷ [])) (sym is) (subst (λ (fs : List PlainSexpr). Spells (printed_line (form ∷ [])) fs) one.1 found.1) in
    matches_by form line text (value_fits once form one.0 line.text line.value spells one.2 value)
