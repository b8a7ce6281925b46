-- Where a form stands in a script: what it is there, and of what it is a part.
use Rattle.std.specs.Prelude.{ℕ, ◌+◌, ◌-◌, nat_eq, nat_lt, if◌then◌else◌, List, length, find, Option, Some, None, option_and_then}
use Rattle.cml_text.specs.Forms.{PlainSexpr, plain_list, PlainForms, no_forms, forms_and, forms_list, span_of}
use Rattle.cml_check.specs.declared.word.Word.{Word}
use Rattle.cml_check.specs.Words.{word_from}
use Rattle.cml_explain.specs.declared.keyword.Role.{Role}
use Rattle.cml_explain.specs.declared.keyword.Role.TheVariants as role
use Rattle.cml_explain.specs.Keywords.{keyword_entry}

-- A form; what it is; and of the list whose part it is, the keyword with which that begins, and how many parts there are behind the first.
pub record PlainStand : Type 0 where
  pub role : Role
  pub word : Option Word
  pub given : ℕ
  pub form : PlainSexpr

-- the keyword with which these forms begin
abbrev pub first_word : PlainForms → Option Word
first_word no_forms = None
first_word (forms_and first behind) = word_from first

-- what the part of this number is, where the first is the keyword, and the next two and the others are these
abbrev pub nth_role : ℕ → Role → Role → Role → Role
nth_role k first second others = if nat_eq k 0 then role.Keyword else if nat_eq k 1 then first else if nat_eq k 2 then second else others

-- the same of a list that begins with this keyword
abbrev pub role_at : ℕ → Option Word → Role
role_at k None = nth_role k role.Value role.Value role.Value
role_at k (Some word) = nth_role k (keyword_entry word).first (keyword_entry word).second (keyword_entry word).others

-- the same of a list of this role: a list of parameters has nothing else
abbrev pub part_role : ℕ → Role → Option Word → Role
part_role k role.Parameters word = role.Parameter
part_role k role word = role_at k word

unfoldable mutual
  -- the form that starts at this byte, where it is this one or stands inside it
  pub standing_in : ℕ → Role → Option Word → ℕ → PlainSexpr → Option PlainStand
  standing_in at role word given (plain_list span forms) =
      if nat_eq span.start at then Some (record { role = role; word = word; given = given; form = plain_list span forms })
      else stand_among at role (first_word forms) (length (forms_list forms) - 1) 0 forms
  standing_in at role word given form =
      if nat_eq (span_of form).start at then Some (record { role = role; word = word; given = given; form = form }) else None

  -- The same among the parts of a list of this role, from the part of this number on: in the first that ends behind the byte.
  pub stand_among : ℕ → Role → Option Word → ℕ → ℕ → PlainForms → Option PlainStand
  stand_among at role word given k no_forms = None
  stand_among at role word given k (forms_and form forms) =
      if nat_lt at (span_of form).end then standing_in at (part_role k role word) word given form else stand_among at role word given (k + 1) forms

-- the first item that ends behind this byte
abbrev pub item_over : ℕ → List PlainSexpr → Option PlainSexpr
item_over at items = find (λ item. nat_lt at (span_of item).end) items

-- the form of a script that starts at this byte
abbrev pub standing_at : ℕ → List PlainSexpr → Option PlainStand
standing_at at items = option_and_then (standing_in at role.Item None 0) (item_over at items)
