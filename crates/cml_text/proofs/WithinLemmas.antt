-- What a text spells can be printed and read back.
use Rattle.std.proofs.Common.{◌≡◌, ℕ, ◌+◌, ◌<◌, List, [], ◌∷◌, ◌++◌, length, refl, ap, sym, ◌∙◌, subst, arith, append_assoc}
use Rattle.std.specs.Str.{IsUtf8}
use Rattle.std.proofs.lemmas.Str.{IsUtf8-append}
use Rattle.cml_text.specs.Forms.{PlainSexpr, plain_name, plain_int, plain_text, plain_list, PlainForms, no_forms, forms_and, plain_forms, without_spans, all_without_spans}
use Rattle.cml_text.specs.Grammar.{Escapes, Ending, StandsFor, Gives, IsGrammatical}
use Rattle.cml_text.specs.Limits.{AreProper}
use Rattle.cml_text.specs.Printed.{printed_form, printed_members, printed_behind, printed}
use Rattle.cml_text.specs.Laws.{SpelledIsWithinLimits, PrintedAgainIsSame}
use Rattle.cml_text.proofs.ClassLemmas.{numeral_small, name_test, escape_test}
use Rattle.cml_text.proofs.LiteralLemmas.{unescaped_low}
use Rattle.cml_text.proofs.RoundLemmas.{one_ascii, printed_is_read}
use Rattle.cml_text.proofs.GrammarLemmas.{utf8_front, utf8_back, utf8_behind, utf8_past, separator_low, ends_low}
use Rattle.cml_text.proofs.GrammarFindLemmas.{spells_by_the_grammar}

-- a byte that makes an escape is ASCII
escaping_low : (b c : ℕ) → Escapes b c → b < 128
escaping_low b c Escapes.to_quote = omega arith
escaping_low b c Escapes.to_backslash = omega arith
escaping_low b c Escapes.to_line_feed = omega arith

-- what stands between the quotes is UTF-8, and so is what it stands for, also after other bytes
content_utf8 : (front spelling content : List ℕ) → StandsFor spelling content → IsUtf8 (front ++ spelling) → IsUtf8 (front ++ content)
content_utf8 front spelling content StandsFor.ended utf8 = utf8
content_utf8 front spelling content (StandsFor.itself b s c quote backslash more) utf8 =
    subst IsUtf8 (append_assoc front (b ∷ []) c) (content_utf8 (front ++ b ∷ []) s c more (subst IsUtf8 (sym (append_assoc front (b ∷ []) s)) utf8))
content_utf8 front spelling content (StandsFor.escape b d s c is more) utf8 =
    let low : 92 < 128 = omega arith in
    let behind : IsUtf8 s = utf8_behind b s (escaping_low b d is) (utf8_past front 92 (b ∷ s) low utf8) in
    IsUtf8-append front (d ∷ c) (utf8_front front (92 ∷ b ∷ s) low utf8) (IsUtf8-append (d ∷ []) c (one_ascii d (unescaped_low b d (sym (escape_test b d is)))) (content_utf8 [] s c more behind))

given_proper : (ending : Ending) (at : ℕ) (text : List ℕ) (forms : PlainForms) → Gives ending at text forms → IsUtf8 text → AreProper forms
given_proper ending at text forms (Gives.nothing e n) utf8 = tt
given_proper ending at text forms (Gives.separator e n b bytes fs sep more) utf8 = given_proper e (n + 1) bytes fs more (utf8_behind b bytes (separator_low b sep) utf8)
given_proper ending at text forms (Gives.comment e n bytes behind fs none more) utf8 =
    given_proper e (n + 1 + length bytes + 1) behind fs more (utf8_past bytes 10 behind (omega arith) (utf8_behind 59 (bytes ++ 10 ∷ behind) (omega arith) utf8))
given_proper ending at text forms (Gives.last_comment n bytes none) utf8 = tt
given_proper ending at text forms (Gives.list e n inside behind members fs within more) utf8 =
    let inner : IsUtf8 (inside ++ 41 ∷ behind) = utf8_behind 40 (inside ++ 41 ∷ behind) (omega arith) utf8 in (
      given_proper _ (n + 1) inside members within (utf8_front inside (41 ∷ behind) (omega arith) inner),
      given_proper e (n + 1 + length inside + 1) behind fs more (utf8_past inside 41 behind (omega arith) inner),
    )
given_proper ending at text forms (Gives.literal e n spelling content behind fs stands small more) utf8 =
    let inner : IsUtf8 (spelling ++ 34 ∷ behind) = utf8_behind 34 (spelling ++ 34 ∷ behind) (omega arith) utf8 in (
      (content_utf8 [] spelling content stands (utf8_front spelling (34 ∷ behind) (omega arith) inner), small),
      given_proper e (n + 1 + length spelling + 1) behind fs more (utf8_past spelling 34 behind (omega arith) inner),
    )
given_proper ending at text forms (Gives.number e n token behind value fs tok num more) utf8 =
    (numeral_small token value num, given_proper e (n + length token) behind fs more (utf8_back token behind (ends_low behind tok.ends) utf8))
given_proper ending at text forms (Gives.name e n token behind fs tok named more) utf8 =
    ((utf8_front token behind (ends_low behind tok.ends) utf8, name_test token named), given_proper e (n + length token) behind fs more (utf8_back token behind (ends_low behind tok.ends) utf8))

pub spelled_is_within_limits : SpelledIsWithinLimits
spelled_is_within_limits text forms spells =
    let is : IsGrammatical text forms = (spells_by_the_grammar text forms).0 spells in
    record { proper = given_proper _ 0 text (plain_forms forms) is.given is.utf8; shallow = is.shallow }

-- where forms stand is not printed
mutual
  form_anywhere : (form : PlainSexpr) → printed_form (without_spans form) ≡ printed_form form
  form_anywhere (plain_name span bytes) = refl
  form_anywhere (plain_int span value) = refl
  form_anywhere (plain_text span content) = refl
  form_anywhere (plain_list span forms) = ap (λ t. 40 ∷ (t ++ 41 ∷ [])) (members_anywhere forms)

  members_anywhere : (forms : PlainForms) → printed_members (all_without_spans forms) ≡ printed_members forms
  members_anywhere no_forms = refl
  members_anywhere (forms_and form forms) = let a = form_anywhere form in let b = behind_anywhere forms in cc

  behind_anywhere : (forms : PlainForms) → printed_behind (all_without_spans forms) ≡ printed_behind forms
  behind_anywhere no_forms = refl
  behind_anywhere (forms_and form forms) = let a = form_anywhere form in let b = behind_anywhere forms in cc

abbrev printed_lines : PlainForms → List ℕ
printed_lines no_forms = []
printed_lines (forms_and form forms) = printed_form form ++ 10 ∷ printed_lines forms

lines_of : (forms : List PlainSexpr) → printed forms ≡ printed_lines (plain_forms forms)
lines_of [] = refl
lines_of (form ∷ forms) = ap (λ t. printed_form form ++ 10 ∷ t) (lines_of forms)

lines_anywhere : (forms : PlainForms) → printed_lines (all_without_spans forms) ≡ printed_lines forms
lines_anywhere no_forms = refl
lines_anywhere (forms_and form forms) = let a = form_anywhere form in let b = lines_anywhere forms in cc

printed_anywhere : (forms others : List PlainSexpr) → all_without_spans (plain_forms forms) ≡ all_without_spans (plain_forms others) → printed forms ≡ printed others
printed_anywhere forms others same =
    lines_of forms ∙ sym (lines_anywhere (plain_forms forms)) ∙ ap printed_lines same ∙ lines_anywhere (plain_forms others) ∙ sym (lines_of others)

pub printed_again_is_same : PrintedAgainIsSame
printed_again_is_same text forms spells short =
    let r = printed_is_read forms (spelled_is_within_limits text forms spells) short in (r.0, r.1, printed_anywhere r.0 forms r.2)
