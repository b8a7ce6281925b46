-- What the spans of forms are.
use Rattle.std.specs.Prelude.{◌≡◌, ℕ, ◌-◌, ◌≤◌, List, length, take, drop}
use Rattle.cml_text.specs.declared.sexpr.Span.{Span}
use Rattle.cml_text.specs.Forms.{PlainSexpr, plain_name, plain_int, plain_text, plain_list, PlainForms, no_forms, forms_and, span_of}
use Rattle.cml_text.specs.Lexemes.{lexemes}
use Rattle.cml_text.specs.Texts.{words}

-- the bytes of a text at a span
abbrev pub bytes_at : List ℕ → Span → List ℕ
bytes_at text span = take (span.end - span.start) (drop span.start text)

-- The form's span is a slice of the text, and the slice spells it: read where they stand, its bytes are the lexemes of the form and
-- nothing else.
pub record IsSpelledAtSpan (text : List ℕ) (form : PlainSexpr) : Type 0 where
  pub ordered : (span_of form).start ≤ (span_of form).end
  pub inside : (span_of form).end ≤ length text
  pub spelled : lexemes 0 (span_of form).start (bytes_at text (span_of form)) ≡ words form

-- and so is each form inside it
abbrev mutual
  pub IsAtSpan : List ℕ → PlainSexpr → Type 0
  IsAtSpan text (plain_name span bytes) = IsSpelledAtSpan text (plain_name span bytes)
  IsAtSpan text (plain_int span value) = IsSpelledAtSpan text (plain_int span value)
  IsAtSpan text (plain_text span content) = IsSpelledAtSpan text (plain_text span content)
  IsAtSpan text (plain_list span forms) = IsSpelledAtSpan text (plain_list span forms) × AreAtSpans text forms

  pub AreAtSpans : List ℕ → PlainForms → Type 0
  AreAtSpans text no_forms = Unit {0}
  AreAtSpans text (forms_and form forms) = IsAtSpan text form × AreAtSpans text forms
