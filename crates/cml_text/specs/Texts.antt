-- Which forms a text spells, and which fault it has where it spells none.
use Rattle.std.specs.Prelude.{◌≡◌, ℕ, ◌-◌, ◌≤◌, nat_lt, if◌then◌else◌, not, Option, Some, None, List, [], ◌∷◌, ◌++◌, length}
use Rattle.std.specs.Str.{IsUtf8, is_utf8}
use Rattle.std.specs.Str.Lossy.{utf8_valid_len}
use Rattle.cml_text.specs.declared.fault.FaultKind.TheVariants.{Unclosed, Stray, Deep, Long, Utf8}
use Rattle.cml_text.specs.Sizes.{text_limit, nesting_limit}
use Rattle.cml_text.specs.Faults.{PlainFault}
use Rattle.cml_text.specs.Forms.{PlainSexpr, plain_list, PlainForms, no_forms, forms_and, plain_forms, nesting_of}
use Rattle.cml_text.specs.Lexemes.{Lexeme, opening, closing, leaf, faulty, lexemes}

-- The lexemes that spell a form: a list is a parenthesis where it starts, its forms, and a parenthesis where it ends; every other
-- form is one lexeme.
abbrev mutual
  pub words : PlainSexpr → List Lexeme
  words (plain_list span forms) = opening span.start ∷ (words_of forms ++ closing span.end ∷ [])
  words form = leaf form ∷ []

  pub words_of : PlainForms → List Lexeme
  words_of no_forms = []
  words_of (forms_and form forms) = words form ++ words_of forms

-- The text spells these forms, one after another: it is not too long, it is UTF-8, its lexemes are those that spell the forms, and no
-- more lists stand inside one another than may.
pub record Spells (text : List ℕ) (forms : List PlainSexpr) : Type 0 where
  pub short : length text ≤ text_limit
  pub utf8 : IsUtf8 text
  pub spelled : lexemes 0 0 text ≡ words_of (plain_forms forms)
  pub shallow : nesting_of (plain_forms forms) ≤ nesting_limit

-- at the end the innermost open list is at fault, if one is open
abbrev pub unclosed : List ℕ → Option PlainFault
unclosed [] = None
unclosed (start ∷ opens) = Some (record { kind = Unclosed; at = start })

-- The first fault of the lexemes from the left, given where the lists that are open began, the innermost first.
abbrev pub first_fault : List Lexeme → List ℕ → Option PlainFault
first_fault [] opens = unclosed opens
first_fault (opening at ∷ rest) opens = if nat_lt (length opens) nesting_limit then first_fault rest (at ∷ opens) else Some (record { kind = Deep; at = at })
first_fault (closing end ∷ rest) [] = Some (record { kind = Stray; at = end - 1 })
first_fault (closing end ∷ rest) (start ∷ opens) = first_fault rest opens
first_fault (leaf form ∷ rest) opens = first_fault rest opens
first_fault (faulty fault ∷ rest) opens = Some fault

-- The fault of a text: that it is too long comes first, then that it is not UTF-8, and then its first fault from the left.
unfoldable pub fault_of : List ℕ → Option PlainFault
fault_of text =
    if nat_lt text_limit (length text) then Some (record { kind = Long; at = text_limit })
    else if not (is_utf8 text) then Some (record { kind = Utf8; at = utf8_valid_len text })
    else first_fault (lexemes 0 0 text) []
