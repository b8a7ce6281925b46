-- Which forms can be printed and read back.
use Rattle.std.specs.Prelude.{◌^◌, ◌<◌, ◌≤◌, ℤ, pos, negsuc, IsTrue, List, length}
use Rattle.std.specs.Str.{IsUtf8}
use Rattle.cml_text.specs.Sizes.{literal_limit, nesting_limit}
use Rattle.cml_text.specs.Forms.{PlainSexpr, plain_name, plain_int, plain_text, plain_list, PlainForms, no_forms, forms_and, plain_forms, nesting_of}
use Rattle.cml_text.specs.Lexemes.{is_name}

-- n, or -(n + 1), as a number of 64 bits with a sign
abbrev pub IsSmall : ℤ → Type 0
IsSmall (pos n) = n < 2 ^ 63
IsSmall (negsuc n) = n < 2 ^ 63

-- a name is UTF-8 and spelled as a name, a number is an `i64`, and a text is UTF-8 and has at most `literal_limit` bytes
abbrev mutual
  pub IsProper : PlainSexpr → Type 0
  IsProper (plain_name span bytes) = IsUtf8 bytes × IsTrue (is_name bytes)
  IsProper (plain_int span value) = IsSmall value
  IsProper (plain_text span bytes) = IsUtf8 bytes × (length bytes ≤ literal_limit)
  IsProper (plain_list span forms) = AreProper forms

  pub AreProper : PlainForms → Type 0
  AreProper no_forms = Unit {0}
  AreProper (forms_and form forms) = IsProper form × AreProper forms

-- and no more lists stand inside one another than may
pub record AreWithinLimits (forms : List PlainSexpr) : Type 0 where
  pub proper : AreProper (plain_forms forms)
  pub shallow : nesting_of (plain_forms forms) ≤ nesting_limit
