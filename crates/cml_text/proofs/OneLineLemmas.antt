-- What is printed on one line.
use Rattle.std.proofs.Common.{◌≡◌, ℕ, ◌+◌, true, eqb, List, [], ◌∷◌, ◌++◌, length, refl, ap, sym, ◌∙◌, arith, inl, inr}
use Rattle.std.specs.Prelude.{flat_map}
use Rattle.std.specs.List.{list_all}
use Rattle.std.specs.Fmt.{signed_decimal}
use Rattle.std.proofs.lemmas.Bool.Decides.{nat_tests}
use Rattle.std.proofs.lemmas.List.{append-nil}
use Rattle.std.proofs.lemmas.List.Folds.{list_all-append}
use Rattle.cml_text.specs.Forms.{PlainSexpr, plain_name, plain_int, plain_text, plain_list, PlainForms, no_forms, forms_and, plain_forms, forms_list, nesting_of, all_without_spans}
use Rattle.cml_text.specs.Lexemes.{is_token_byte, is_comment_byte, lexemes}
use Rattle.cml_text.specs.Limits.{IsProper, AreProper}
use Rattle.cml_text.specs.Printed.{escaped, printed_form, printed_members, printed_behind, printed_line}
use Rattle.cml_text.specs.Texts.{words_of}
use Rattle.cml_text.specs.Laws.{PrintedLineIsRead, PrintedLineIsOneLine}
use Rattle.cml_text.proofs.WordLemmas.{cases_test}
use Rattle.cml_text.proofs.PrintedLemmas.{list_all-weaker, printed_number, printed_name}
use Rattle.cml_text.proofs.LexPrintedLemmas.{placed_members, lex_members}
use Rattle.cml_text.proofs.RoundLemmas.{members_utf8, members_same, members_nesting}
use Rattle.cml_text.proofs.SpanLemmas.{no_words}
use Rattle.cml_text.proofs.WholeLemmas.{plain_forms-forms_list}

pub printed_line_is_read : PrintedLineIsRead
printed_line_is_read forms limits short =
    let placed : PlainForms = placed_members 0 (plain_forms forms) in
    let same : plain_forms (forms_list placed) ≡ placed = plain_forms-forms_list placed in
    let line : List ℕ = printed_line forms in
    let words : lexemes 0 0 line ≡ words_of placed =
    ap (lexemes 0 0) (sym (append-nil line)) ∙ lex_members 0 (plain_forms forms) [] limits.proper tt
    ∙ ap (λ ls. words_of placed ++ ls) (no_words (0 + length line)) ∙ append-nil (words_of placed) in (
      forms_list placed,
      record {
        short = short;
        utf8 = members_utf8 (plain_forms forms) limits.proper;
        spelled = words ∙ ap words_of (sym same);
        shallow = omega (arith, ap nesting_of same, members_nesting 0 (plain_forms forms), limits.shallow);
      },
      ap all_without_spans same ∙ members_same 0 (plain_forms forms),
    )

-- No line feed.

token_no_feed : (b : ℕ) → is_token_byte b ≡ true → is_comment_byte b ≡ true
token_no_feed b h = grind (arith, nat_tests)

both_none : (front back : List ℕ) → list_all is_comment_byte front ≡ true → list_all is_comment_byte back ≡ true → list_all is_comment_byte (front ++ back) ≡ true
both_none front back p q = list_all-append is_comment_byte front back ∙ rw p q

escaped_none : (b : ℕ) → list_all is_comment_byte (escaped b) ≡ true
escaped_none b =
    elim (cases_test (eqb b 34)) [
      | inl e ↦ rw e refl
      | inr e ↦
          elim (cases_test (eqb b 92)) [
            | inl e2 ↦ rw (e, e2) refl
            | inr e2 ↦ elim (cases_test (eqb b 10)) [ inl e3 ↦ rw (e, e2, e3) refl | inr e3 ↦ rw (e, e2, e3) (rw e3 refl) ]
          ]
    ]

content_none : (content : List ℕ) → list_all is_comment_byte (flat_map escaped content) ≡ true
content_none [] = refl
content_none (b ∷ content) = both_none (escaped b) (flat_map escaped content) (escaped_none b) (content_none content)

mutual
  form_none : (form : PlainSexpr) → IsProper form → list_all is_comment_byte (printed_form form) ≡ true
  form_none (plain_name span bytes) proper = list_all-weaker is_token_byte is_comment_byte token_no_feed bytes (printed_name bytes proper.0 proper.1).bytes
  form_none (plain_int span value) proper = list_all-weaker is_token_byte is_comment_byte token_no_feed (signed_decimal value) (printed_number value proper).bytes
  form_none (plain_text span content) proper = both_none (flat_map escaped content) (34 ∷ []) (content_none content) refl
  form_none (plain_list span forms) proper = both_none (printed_members forms) (41 ∷ []) (members_none forms proper) refl

  members_none : (forms : PlainForms) → AreProper forms → list_all is_comment_byte (printed_members forms) ≡ true
  members_none no_forms proper = refl
  members_none (forms_and form forms) proper = both_none (printed_form form) (printed_behind forms) (form_none form proper.0) (behind_none forms proper.1)

  behind_none : (forms : PlainForms) → AreProper forms → list_all is_comment_byte (printed_behind forms) ≡ true
  behind_none no_forms proper = refl
  behind_none (forms_and form forms) proper = both_none (printed_form form) (printed_behind forms) (form_none form proper.0) (behind_none forms proper.1)

pub printed_line_is_one_line : PrintedLineIsOneLine
printed_line_is_one_line forms limits = members_none (plain_forms forms) limits.proper
