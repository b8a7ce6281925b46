-- A printed text is UTF-8, and its forms are those that were printed.
use Rattle.std.proofs.Common.{◌≡◌, ℕ, suc, ◌+◌, ◌<◌, ◌≤◌, true, eqb, ltb, List, [], ◌∷◌, ◌++◌, length, get_or, refl, ap, sym, ◌∙◌, subst, arith, inl, inr, ℤ, pos, negsuc}
use lib.Utf8.{scalar}
use Rattle.std.specs.Prelude.{flat_map}
use Rattle.std.specs.Char.{encode_utf8}
use Rattle.std.specs.Fmt.{signed_decimal}
use Rattle.std.specs.Str.{IsUtf8, encode_utf8_all, all_scalars}
use Rattle.std.proofs.lemmas.Bool.Decides.{nat_tests}
use Rattle.std.proofs.lemmas.Fmt.{IsAscii-signed}
use Rattle.std.proofs.lemmas.Grind.{flat_map-append}
use Rattle.std.proofs.lemmas.List.{append-nil}
use Rattle.std.proofs.lemmas.Str.{IsUtf8-nil, IsUtf8-append, IsUtf8-from_ascii, inside_one, encode_ascii}
use Rattle.std.proofs.lemmas.Str.Ascii.{IsAscii-nil, IsAscii-cons}
use Rattle.cml_text.specs.Forms.{PlainSexpr, plain_name, plain_int, plain_text, plain_list, PlainForms, no_forms}
use Rattle.cml_text.specs.Forms.{forms_and, plain_forms, nesting, nesting_of, nowhere, without_spans}
use Rattle.cml_text.specs.Forms.{all_without_spans}
use Rattle.cml_text.specs.Lexemes.{lexemes}
use Rattle.cml_text.specs.Limits.{IsSmall, IsProper, AreProper}
use Rattle.cml_text.specs.Printed.{escaped, needs_no_escape, quoted, printed_form, printed_members, printed_behind, printed}
use Rattle.cml_text.specs.Texts.{words, words_of}
use Rattle.cml_text.specs.Laws.{PrintedIsRead}
use Rattle.cml_text.proofs.WordLemmas.{cases_test}
use Rattle.cml_text.proofs.BeginLemmas.{begin_separator}
use Rattle.cml_text.proofs.PrintLemmas.{escaped_plain}
use Rattle.cml_text.proofs.PrintedLemmas.{all_of_both}
use Rattle.cml_text.proofs.LexPrintedLemmas.{placed, placed_members, placed_behind, lex_form, begins_alone}

pub one_ascii : (b : ℕ) → b < 128 → IsUtf8 (b ∷ [])
one_ascii b low = IsUtf8-from_ascii (b ∷ []) (IsAscii-cons b [] low IsAscii-nil)

two_ascii : (a b : ℕ) → a < 128 → b < 128 → IsUtf8 (a ∷ b ∷ [])
two_ascii a b low low' = IsUtf8-from_ascii (a ∷ b ∷ []) (IsAscii-cons a (b ∷ []) low (IsAscii-cons b [] low' IsAscii-nil))

escaped_ascii : (c : ℕ) → c < 128 → IsUtf8 (escaped c)
escaped_ascii c low =
    elim (cases_test (eqb c 34)) [
      | inl e ↦ rw e (two_ascii 92 34 (omega arith) (omega arith))
      | inr e ↦
          elim (cases_test (eqb c 92)) [
            | inl e2 ↦ rw (e, e2) (two_ascii 92 92 (omega arith) (omega arith))
            | inr e2 ↦ elim (cases_test (eqb c 10)) [ inl e3 ↦ rw (e, e2, e3) (two_ascii 92 110 (omega arith) (omega arith)) | inr e3 ↦ rw (e, e2, e3) (one_ascii c low) ]
          ]
    ]

-- bytes that need no escape are printed as they are
escaped_same : (bytes : List ℕ) → ((i : ℕ) → i < length bytes → needs_no_escape (get_or bytes i 0) ≡ true) → flat_map escaped bytes ≡ bytes
escaped_same [] each = refl
escaped_same (b ∷ bytes) each = ap (λ t. t ++ flat_map escaped bytes) (escaped_plain b (each 0 (omega arith))) ∙ ap (λ t. b ∷ t) (escaped_same bytes (λ i h. each (suc i) (omega arith)))

-- a byte of a character beyond ASCII is none either
high_byte : (c : ℕ) → 128 ≤ c → (i : ℕ) → i < length (encode_utf8 c) → needs_no_escape (get_or (encode_utf8 c) i 0) ≡ true
high_byte c high i h =
    elim (cases_test (ltb (get_or (encode_utf8 c) i 0) 128)) [
      | inl e ↦
          let low : get_or (encode_utf8 c) i 0 < 128 = grind (arith, nat_tests) in
          let same : c ≡ get_or (encode_utf8 c) i 0 = inside_one c [] (encode_utf8 c) i (sym (append-nil (encode_utf8 c))) h low in
          absurd (omega (arith, same))
      | inr e ↦ let far : 128 ≤ get_or (encode_utf8 c) i 0 = grind (arith, nat_tests) in grind (arith, nat_tests)
    ]

escaped_char : (c : ℕ) → all_scalars (c ∷ []) ≡ true → IsUtf8 (flat_map escaped (encode_utf8 c))
escaped_char c scalar =
    elim (cases_test (ltb c 128)) [
      | inl e ↦
          let low : c < 128 = grind (arith, nat_tests) in
          subst IsUtf8 (sym (ap (flat_map escaped) (encode_ascii c low) ∙ append-nil (escaped c))) (escaped_ascii c low)
      | inr e ↦
          let high : 128 ≤ c = grind (arith, nat_tests) in
          subst IsUtf8 (sym (escaped_same (encode_utf8 c) (high_byte c high))) (c ∷ [], (scalar, append-nil (encode_utf8 c)))
    ]

one_scalar : (c : ℕ) (cs : List ℕ) → all_scalars (c ∷ cs) ≡ true → (all_scalars (c ∷ []) ≡ true) × (all_scalars cs ≡ true)
one_scalar c cs h = let parts : (scalar c ≡ true) × (all_scalars cs ≡ true) = all_of_both (scalar c) (all_scalars cs) h in (rw parts.0 refl, parts.1)

escaped_chars : (cs : List ℕ) → all_scalars cs ≡ true → IsUtf8 (flat_map escaped (encode_utf8_all cs))
escaped_chars [] h = IsUtf8-nil
escaped_chars (c ∷ cs) h =
    let parts : (all_scalars (c ∷ []) ≡ true) × (all_scalars cs ≡ true) = one_scalar c cs h in
    subst IsUtf8 (sym (flat_map-append escaped (encode_utf8 c) (encode_utf8_all cs)))
    (IsUtf8-append (flat_map escaped (encode_utf8 c)) (flat_map escaped (encode_utf8_all cs)) (escaped_char c parts.0) (escaped_chars cs parts.1))

quoted_utf8 : (content : List ℕ) → IsUtf8 content → IsUtf8 (quoted content)
quoted_utf8 content utf8 =
    let inner : IsUtf8 (flat_map escaped content) = subst (λ (t : List ℕ). IsUtf8 (flat_map escaped t)) utf8.1.1 (escaped_chars utf8.0 utf8.1.0) in
    IsUtf8-append (34 ∷ []) (flat_map escaped content ++ 34 ∷ []) (one_ascii 34 (omega arith)) (IsUtf8-append (flat_map escaped content) (34 ∷ []) inner (one_ascii 34 (omega arith)))

number_utf8 : (z : ℤ) → IsSmall z → IsUtf8 (signed_decimal z)
number_utf8 (pos n) small = IsUtf8-from_ascii (signed_decimal (pos n)) (IsAscii-signed (pos n) small)
number_utf8 (negsuc n) small = IsUtf8-from_ascii (signed_decimal (negsuc n)) (IsAscii-signed (negsuc n) small)

mutual
  form_utf8 : (form : PlainSexpr) → IsProper form → IsUtf8 (printed_form form)
  form_utf8 (plain_name span bytes) proper = proper.0
  form_utf8 (plain_int span value) proper = number_utf8 value proper
  form_utf8 (plain_text span content) proper = quoted_utf8 content proper.0
  form_utf8 (plain_list span forms) proper =
      IsUtf8-append (40 ∷ []) (printed_members forms ++ 41 ∷ []) (one_ascii 40 (omega arith)) (IsUtf8-append (printed_members forms) (41 ∷ []) (members_utf8 forms proper) (one_ascii 41 (omega arith)))

  pub members_utf8 : (forms : PlainForms) → AreProper forms → IsUtf8 (printed_members forms)
  members_utf8 no_forms proper = IsUtf8-nil
  members_utf8 (forms_and form forms) proper = IsUtf8-append (printed_form form) (printed_behind forms) (form_utf8 form proper.0) (behind_utf8 forms proper.1)

  behind_utf8 : (forms : PlainForms) → AreProper forms → IsUtf8 (printed_behind forms)
  behind_utf8 no_forms proper = IsUtf8-nil
  behind_utf8 (forms_and form forms) proper =
      IsUtf8-append (32 ∷ []) (printed_form form ++ printed_behind forms) (one_ascii 32 (omega arith))
      (IsUtf8-append (printed_form form) (printed_behind forms) (form_utf8 form proper.0)
      (behind_utf8 forms proper.1))

printed_utf8 : (forms : List PlainSexpr) → AreProper (plain_forms forms) → IsUtf8 (printed forms)
printed_utf8 [] proper = IsUtf8-nil
printed_utf8 (form ∷ forms) proper =
    IsUtf8-append (printed_form form) (10 ∷ printed forms) (form_utf8 form proper.0) (IsUtf8-append (10 ∷ []) (printed forms) (one_ascii 10 (omega arith)) (printed_utf8 forms proper.1))

-- forms keep all but their spans when they are placed
mutual
  placed_same : (at : ℕ) (form : PlainSexpr) → without_spans (placed at form) ≡ without_spans form
  placed_same at (plain_name span bytes) = refl
  placed_same at (plain_int span value) = refl
  placed_same at (plain_text span content) = refl
  placed_same at (plain_list span forms) = ap (plain_list nowhere) (members_same (at + 1) forms)

  pub members_same : (at : ℕ) (forms : PlainForms) → all_without_spans (placed_members at forms) ≡ all_without_spans forms
  members_same at no_forms = refl
  members_same at (forms_and form forms) = let a = placed_same at form in let b = behind_same (at + length (printed_form form)) forms in cc

  behind_same : (at : ℕ) (forms : PlainForms) → all_without_spans (placed_behind at forms) ≡ all_without_spans forms
  behind_same at no_forms = refl
  behind_same at (forms_and form forms) = let a = placed_same (at + 1) form in let b = behind_same (at + 1 + length (printed_form form)) forms in cc

mutual
  placed_nesting : (at : ℕ) (form : PlainSexpr) → nesting (placed at form) ≡ nesting form
  placed_nesting at (plain_name span bytes) = refl
  placed_nesting at (plain_int span value) = refl
  placed_nesting at (plain_text span content) = refl
  placed_nesting at (plain_list span forms) = ap (λ n. n + 1) (members_nesting (at + 1) forms)

  pub members_nesting : (at : ℕ) (forms : PlainForms) → nesting_of (placed_members at forms) ≡ nesting_of forms
  members_nesting at no_forms = refl
  members_nesting at (forms_and form forms) = let a = placed_nesting at form in let b = behind_nesting (at + length (printed_form form)) forms in cc

  behind_nesting : (at : ℕ) (forms : PlainForms) → nesting_of (placed_behind at forms) ≡ nesting_of forms
  behind_nesting at no_forms = refl
  behind_nesting at (forms_and form forms) = let a = placed_nesting (at + 1) form in let b = behind_nesting (at + 1 + length (printed_form form)) forms in cc

-- the forms where they stand when they are printed, one a line
abbrev placed_lines : ℕ → List PlainSexpr → List PlainSexpr
placed_lines at [] = []
placed_lines at (form ∷ forms) = placed at form ∷ placed_lines (at + length (printed_form form) + 1) forms

lines_same : (at : ℕ) (forms : List PlainSexpr) → all_without_spans (plain_forms (placed_lines at forms)) ≡ all_without_spans (plain_forms forms)
lines_same at [] = refl
lines_same at (form ∷ forms) = let a = placed_same at form in let b = lines_same (at + length (printed_form form) + 1) forms in cc

lines_nesting : (at : ℕ) (forms : List PlainSexpr) → nesting_of (plain_forms (placed_lines at forms)) ≡ nesting_of (plain_forms forms)
lines_nesting at [] = refl
lines_nesting at (form ∷ forms) = let a = placed_nesting at form in let b = lines_nesting (at + length (printed_form form) + 1) forms in cc

no_words : (at : ℕ) → lexemes 0 at [] ≡ []
unfolding lexemes
no_words at = refl

lex_lines : (at : ℕ) (forms : List PlainSexpr) → AreProper (plain_forms forms) → lexemes 0 at (printed forms) ≡ words_of (plain_forms (placed_lines at forms))
lex_lines at [] proper = no_words at
lex_lines at (form ∷ forms) proper =
    lex_form at form (10 ∷ printed forms) proper.0 refl
    ∙ ap (λ ls. words (placed at form) ++ ls)
    (begins_alone (at + length (printed_form form)) 10 (printed forms) [] (begin_separator (at + length (printed_form form)) 10 (printed forms) refl)
    ∙ lex_lines (at + length (printed_form form) + 1) forms proper.1)

pub printed_is_read : PrintedIsRead
printed_is_read forms limits short = (
  placed_lines 0 forms,
  record {
    short = short;
    utf8 = printed_utf8 forms limits.proper;
    spelled = lex_lines 0 forms limits.proper;
    shallow = omega (arith, lines_nesting 0 forms, limits.shallow);
  },
  lines_same 0 forms,
)
