-- How forms are printed.
use Rattle.std.specs.Prelude.{ℕ, Bool, not, ◌||◌, ◌==◌, if◌then◌else◌, List, [], ◌∷◌, ◌++◌, flat_map}
use Rattle.std.specs.Fmt.{signed_decimal}
use Rattle.cml_text.specs.Forms.{PlainSexpr, plain_name, plain_int, plain_text, plain_list, PlainForms, no_forms, forms_and, plain_forms}

-- A quote, a backslash and a line feed are printed by escapes, and every other byte of a text as it is.
abbrev pub escaped : ℕ → List ℕ
escaped b = if b == 34 then 92 ∷ 34 ∷ [] else if b == 92 then 92 ∷ 92 ∷ [] else if b == 10 then 92 ∷ 110 ∷ [] else b ∷ []

abbrev pub needs_no_escape : ℕ → Bool
needs_no_escape b = not ((b == 34) || (b == 92) || (b == 10))

-- a text literal that stands for these bytes
abbrev pub quoted : List ℕ → List ℕ
quoted content = 34 ∷ (flat_map escaped content ++ 34 ∷ [])

-- A name is printed as it is, a number in decimal with no leading zeros and no `-0`, a text as a literal, and a list in
-- parentheses with one space between its members.
abbrev mutual
  pub printed_form : PlainSexpr → List ℕ
  printed_form (plain_name span bytes) = bytes
  printed_form (plain_int span value) = signed_decimal value
  printed_form (plain_text span content) = quoted content
  printed_form (plain_list span forms) = 40 ∷ (printed_members forms ++ 41 ∷ [])

  pub printed_members : PlainForms → List ℕ
  printed_members no_forms = []
  printed_members (forms_and form forms) = printed_form form ++ printed_behind forms

  -- members after another one
  pub printed_behind : PlainForms → List ℕ
  printed_behind no_forms = []
  printed_behind (forms_and form forms) = 32 ∷ (printed_form form ++ printed_behind forms)

-- each form is followed by a line feed
abbrev pub printed : List PlainSexpr → List ℕ
printed [] = []
printed (form ∷ forms) = printed_form form ++ 10 ∷ printed forms

-- forms on one line: one space between them, as in a list without its parentheses
abbrev pub printed_line : List PlainSexpr → List ℕ
printed_line forms = printed_members (plain_forms forms)
