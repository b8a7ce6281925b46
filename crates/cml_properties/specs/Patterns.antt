-- Which lines a pattern matches.
use Rattle.std.specs.Prelude.{ℕ, ℤ, Bool, true, false, ◌&&◌, ◌||◌, List, Option, Some, None, codes, bytes_eq}
use Rattle.std.specs.Ordering.{int_eq}
use Rattle.cml_text.specs.Forms.{PlainSexpr, plain_name, plain_int, plain_text, plain_list, PlainForms, no_forms, forms_and}
use Rattle.cml_properties.specs.Lines.{PlainLine}

-- `_` stands for anything
abbrev pub is_blank : List ℕ → Bool
is_blank name = bytes_eq name (codes "_")

abbrev pub is_name_form : List ℕ → PlainSexpr → Bool
is_name_form name (plain_name span other) = bytes_eq name other
is_name_form name _ = false

abbrev pub is_int_form : ℤ → PlainSexpr → Bool
is_int_form value (plain_int span other) = int_eq value other
is_int_form value _ = false

abbrev pub is_text_form : List ℕ → PlainSexpr → Bool
is_text_form content (plain_text span other) = bytes_eq content other
is_text_form content _ = false

abbrev pub is_text_pattern : PlainSexpr → Bool
is_text_pattern (plain_text span content) = true
is_text_pattern _ = false

abbrev pub is_form_list : PlainSexpr → Bool
is_form_list (plain_list span forms) = true
is_form_list _ = false

-- A form fits a pattern if it is the same, wherever the two stand, but for what stands in place of each `_`.
abbrev mutual
  pub fits : PlainSexpr → PlainSexpr → Bool
  fits (plain_name span name) form = is_blank name || is_name_form name form
  fits (plain_int span value) form = is_int_form value form
  fits (plain_text span content) form = is_text_form content form
  fits (plain_list span patterns) (plain_list span' forms) = all_fit patterns forms
  fits (plain_list span patterns) _ = false

  pub all_fit : PlainForms → PlainForms → Bool
  all_fit no_forms no_forms = true
  all_fit (forms_and pattern patterns) (forms_and form forms) = fits pattern form && all_fit patterns forms
  all_fit _ _ = false

-- there is a value, and it fits
abbrev pub fits_value : PlainSexpr → Option PlainSexpr → Bool
fits_value pattern (Some form) = fits pattern form
fits_value pattern None = false

-- A text matches the line of its characters, since it is printed without quotes; `_` matches every line; and any other pattern matches a
-- line that spells one form that fits.
abbrev pub matches : PlainSexpr → PlainLine → Bool
matches (plain_text span content) line = bytes_eq content line.text
matches (plain_name span name) line = is_blank name || fits_value (plain_name span name) line.value
matches pattern line = fits_value pattern line.value
