-- What a form is, apart from how it lies in memory.
use Rattle.std.specs.Prelude.{ℕ, ℤ, ◌+◌, max, List, [], ◌∷◌}
use Rattle.cml_text.specs.declared.sexpr.Span.{Span}

mutual
  -- A form is a name by its bytes, a number, a text by the bytes that it stands for, or a list of forms.
  -- Each has the span of bytes at which it stands in its text.
  pub data PlainSexpr : Type 0 where
    plain_name : Span → List ℕ → PlainSexpr
    plain_int : Span → ℤ → PlainSexpr
    plain_text : Span → List ℕ → PlainSexpr
    plain_list : Span → PlainForms → PlainSexpr

  pub data PlainForms : Type 0 where
    no_forms : PlainForms
    forms_and : PlainSexpr → PlainForms → PlainForms

-- the forms of a list, and back
abbrev pub plain_forms : List PlainSexpr → PlainForms
plain_forms [] = no_forms
plain_forms (form ∷ forms) = forms_and form (plain_forms forms)

abbrev pub forms_list : PlainForms → List PlainSexpr
forms_list no_forms = []
forms_list (forms_and form forms) = form ∷ forms_list forms

-- where a form stands
abbrev pub span_of : PlainSexpr → Span
span_of (plain_name span bytes) = span
span_of (plain_int span value) = span
span_of (plain_text span bytes) = span
span_of (plain_list span forms) = span

-- how many lists stand inside one another at most
abbrev mutual
  pub nesting : PlainSexpr → ℕ
  nesting (plain_list span forms) = nesting_of forms + 1
  nesting _ = 0

  pub nesting_of : PlainForms → ℕ
  nesting_of no_forms = 0
  nesting_of (forms_and form forms) = max (nesting form) (nesting_of forms)

-- the forms with every span at 0, for comparing forms wherever they stand
abbrev pub nowhere : Span
nowhere = record { start = 0; end = 0 }

abbrev mutual
  pub without_spans : PlainSexpr → PlainSexpr
  without_spans (plain_name span bytes) = plain_name nowhere bytes
  without_spans (plain_int span value) = plain_int nowhere value
  without_spans (plain_text span bytes) = plain_text nowhere bytes
  without_spans (plain_list span forms) = plain_list nowhere (all_without_spans forms)

  pub all_without_spans : PlainForms → PlainForms
  all_without_spans no_forms = no_forms
  all_without_spans (forms_and form forms) = forms_and (without_spans form) (all_without_spans forms)
