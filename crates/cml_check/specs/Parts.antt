-- What a form is made of.
use Rattle.std.specs.Prelude.{Bool, true, false}
use Rattle.cml_text.specs.Forms.{PlainSexpr, plain_list, forms_and}

abbrev pub is_list : PlainSexpr → Bool
is_list (plain_list span forms) = true
is_list _ = false

-- a list that is not empty
abbrev pub is_headed : PlainSexpr → Bool
is_headed (plain_list span (forms_and first behind)) = true
is_headed _ = false
