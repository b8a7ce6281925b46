-- What the answer to a text is.
use Rattle.std.proofs.Common.{◌≡◌, ℕ, ◌<◌, ◌≤◌, true, false, ltb, List, [], length, refl, ap, sym, ◌∙◌, subst, arith, Option, Some, None, Result, Ok, Err, IfOk, IfErr, Vec, Global}
use Rattle.std.specs.Str.{IsUtf8, is_utf8}
use Rattle.std.specs.Str.Lossy.{utf8_valid_len}
use Rattle.std.proofs.lemmas.Bool.Decides.{nat_tests}
use Rattle.std.proofs.lemmas.Str.{is_utf8-from_IsUtf8, IsUtf8-from_is_utf8}
use Rattle.cml_text.specs.declared.fault.TextFault.{TextFault}
use Rattle.cml_text.specs.declared.fault.TextFault.TheVariants as fault
use Rattle.cml_text.specs.declared.fault.FaultKind.TheVariants.{Long, Utf8}
use Rattle.cml_text.specs.Faults.{PlainFault}
use Rattle.cml_text.specs.Forms.{PlainSexpr, plain_forms}
use Rattle.cml_text.specs.Lexemes.{lexemes}
use Rattle.cml_text.specs.Texts.{Spells, first_fault, fault_of}
use Rattle.cml_text.specs.Nests.{words_in}
use Rattle.cml_text.specs.Steps.{IsFault}
use Rattle.cml_text.specs.Answers.{ReadsAs, FailsWith}
use Rattle.cml_text.specs.Laws.{SpellsOneAtMost, SpelledHasNoFault}
use Rattle.cml_text.proofs.WordLemmas.{cases_test}
use Rattle.cml_text.proofs.TextLemmas.{no_fault, not_deep, words_in_tell}
use Rattle.std.proofs.Common.{inl, inr}

pub fault_long : (text : List ℕ) → 1048576 < length text → fault_of text ≡ Some (record { kind = Long; at = 1048576 })
unfolding fault_of
fault_long text long = let test : ltb 1048576 (length text) ≡ true = grind (arith, nat_tests) in rw test refl

pub fault_utf8 : (text : List ℕ) → length text ≤ 1048576 → (IsUtf8 text → ⊥) → fault_of text ≡ Some (record { kind = Utf8; at = utf8_valid_len text })
unfolding fault_of
fault_utf8 text short never =
    let test : ltb 1048576 (length text) ≡ false = grind (arith, nat_tests) in
    let test2 : is_utf8 text ≡ false = elim (cases_test (is_utf8 text)) [ inl e ↦ absurd (never (IsUtf8-from_is_utf8 text e)) | inr e ↦ e ] in
    rw test (rw test2 refl)

pub fault_left : (text : List ℕ) → length text ≤ 1048576 → IsUtf8 text → fault_of text ≡ first_fault (lexemes 0 0 text) []
unfolding fault_of
fault_left text short utf8 =
    let test : ltb 1048576 (length text) ≡ false = grind (arith, nat_tests) in
    let test2 : is_utf8 text ≡ true = is_utf8-from_IsUtf8 text utf8 in
    rw test (rw test2 refl)

pub spelled_no_fault : SpelledHasNoFault
spelled_no_fault text forms spells = fault_left text spells.short spells.utf8 ∙ ap (λ ws. first_fault ws []) spells.spelled ∙ no_fault (plain_forms forms) spells.shallow

pub one_at_most : SpellsOneAtMost
one_at_most text forms others f g = words_in_tell forms others (sym f.spelled ∙ g.spelled)

-- what the loop found is spelled
pub found_from : (text text' : List ℕ) (result : Result (Vec PlainSexpr Global) TextFault) → text' ≡ text
    → length text ≤ 1048576 → IsUtf8 text → IfOk result (λ forms. lexemes 0 0 text' ≡ words_in forms.items) →
    IfOk result (λ _. first_fault (lexemes 0 0 text') [] ≡ None) → IfOk result (λ forms. Spells text forms.items)
found_from text text' (Ok forms) same short utf8 words none =
    let spelled : lexemes 0 0 text ≡ words_in forms.items = ap (λ t. lexemes 0 0 t) (sym same) ∙ words in
    record {
      short = short;
      utf8 = utf8;
      spelled = spelled;
      shallow = not_deep (plain_forms forms.items) (ap (λ ws. first_fault ws []) (sym words) ∙ none);
    }
found_from text text' (Err e) same short utf8 words none = tt

pub fault_from : (text text' : List ℕ) (result : Result (Vec PlainSexpr Global) TextFault) → text' ≡ text → length text ≤ 1048576 → IsUtf8 text →
    IfErr result (λ fault. IsFault fault (first_fault (lexemes 0 0 text') [])) → IfErr result (λ fault. IsFault fault (fault_of text))
fault_from text text' (Ok forms) same short utf8 found = tt
fault_from text text' (Err e) same short utf8 found =
    let P : Option PlainFault → Type 0 = λ o. IsFault e o in
    subst P (ap (λ t. first_fault (lexemes 0 0 t) []) same ∙ sym (fault_left text short utf8)) found

-- a text has a fault or none
pub fault_clash : (o : Option PlainFault) (f : PlainFault) → o ≡ None → o ≡ Some f → ⊥
fault_clash None f a b = absurd (cc)
fault_clash (Some g) f a b = absurd (cc)

pub only_from : (text : List ℕ) (result : Result (Vec PlainSexpr Global) TextFault) → IfOk result (λ forms. Spells text forms.items) → IfErr result (λ fault. IsFault fault (fault_of text)) →
    (forms : List PlainSexpr) → Spells text forms → ReadsAs result forms
only_from text (Ok read) found fault forms spells = one_at_most text read.items forms found spells
only_from text (Err fault.Memory) found fault forms spells = tt
only_from text (Err (fault.At kind at)) found fault forms spells =
    fault_clash (fault_of text) (record { kind = kind; at = at }) (spelled_no_fault text forms spells) fault

pub only_fault_from : (text : List ℕ) (result : Result (Vec PlainSexpr Global) TextFault) → IfOk result (λ forms. Spells text forms.items) → IfErr result (λ fault. IsFault fault (fault_of text)) →
    (fault : PlainFault) → fault_of text ≡ Some fault → FailsWith result fault
only_fault_from text (Ok read) found fault other is = fault_clash (fault_of text) other (spelled_no_fault text read.items found) is
only_fault_from text (Err fault.Memory) found fault other is = tt
only_fault_from text (Err (fault.At kind at)) found fault other is = let same : Some other ≡ Some (record { kind = kind; at = at }) = sym is ∙ fault in cc
