-- The effects of forms.
use Rattle.std.proofs.Common.{◌≡◌, ◌≢◌, ◌≤◌, arith, false, List, [], ◌∷◌, length, Some, refl, ap}
use mathlib.Core.Bool.{true≢false}
use Rattle.cml_text.specs.declared.sexpr.Span.{Span}
use Rattle.cml_text.specs.Forms.{PlainSexpr, plain_list, PlainForms, forms_and, plain_forms, span_of}
use Rattle.cml_check.specs.declared.fault.CheckKind.TheVariants.{Form}
use Rattle.cml_check.specs.declared.syntax.Act.{Act}
use Rattle.cml_check.specs.declared.syntax.ActOnOne.{ActOnOne}
use Rattle.cml_check.specs.declared.syntax.ActOnTwo.{ActOnTwo}
use Rattle.cml_check.specs.declared.word.Word.TheVariants as word
use Rattle.cml_check.specs.Syntax.{Name}
use Rattle.cml_check.specs.Checked.{check_fault}
use Rattle.cml_check.specs.Words.{word_from}
use Rattle.cml_check.specs.Parts.{is_headed}
use Rattle.cml_check.specs.Heads.{PlainHead}
use Rattle.cml_check.specs.Statements.{effect_in, source_by, source_in, form_source}

pub no_act : (heads : List PlainHead) (names : List Name) (span : Span) (a : Act) (behind : List PlainSexpr) → 1 ≤ length behind →
    effect_in heads names span (Some (word.Act a)) (plain_forms behind) ≡ check_fault Form span
unfolding effect_in
no_act heads names span a [] h = absurd (omega arith)
no_act heads names span a (p ∷ behind) h = refl

pub no_mvar : (heads : List PlainHead) (names : List Name) (span : Span) (behind : List PlainSexpr) → length behind ≢ 0 → length behind ≢ 1 →
    effect_in heads names span (Some word.MVar) (plain_forms behind) ≡ check_fault Form span
unfolding effect_in
no_mvar heads names span [] h g = absurd (h refl)
no_mvar heads names span (p ∷ []) h g = absurd (g refl)
no_mvar heads names span behind h g = refl

pub no_act_on_one : (heads : List PlainHead) (names : List Name) (span : Span) (a : ActOnOne) (behind : List PlainSexpr) → length behind ≢ 1 →
    effect_in heads names span (Some (word.ActOnOne a)) (plain_forms behind) ≡ check_fault Form span
unfolding effect_in
no_act_on_one heads names span a (p ∷ []) h = absurd (h refl)
no_act_on_one heads names span a behind h = refl

pub no_act_on_two : (heads : List PlainHead) (names : List Name) (span : Span) (a : ActOnTwo) (behind : List PlainSexpr) → length behind ≢ 2 →
    effect_in heads names span (Some (word.ActOnTwo a)) (plain_forms behind) ≡ check_fault Form span
unfolding effect_in
no_act_on_two heads names span a (p ∷ q ∷ []) h = absurd (h refl)
no_act_on_two heads names span a behind h = refl

pub headed_source : (heads : List PlainHead) (names : List Name) (form first : PlainSexpr) (behind : PlainForms) → form ≡ plain_list (span_of form) (forms_and first behind) →
    source_in heads names form ≡ source_by heads names (span_of form) (word_from first) behind
unfolding source_in
headed_source heads names form first behind h = ap (source_in heads names) h

pub plain_form_source : (heads : List PlainHead) (names : List Name) (form : PlainSexpr) → is_headed form ≡ false → source_in heads names form ≡ form_source heads names form
unfolding source_in
plain_form_source heads names (plain_list span (forms_and first behind)) h = absurd (true≢false h)
plain_form_source heads names form h = refl
