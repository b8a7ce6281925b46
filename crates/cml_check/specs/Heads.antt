-- What the heads of a script's items say: which functions there are.
use Rattle.std.specs.Prelude.{ℕ, Bool, false, nat_lt, nat_eq, if◌then◌else◌, List, [], ◌∷◌, ◌++◌, codes, get_or, length, map, position, slice_get, Option, Some, None, Ok, Err}
use Rattle.std.specs.Str.{bytes_eq}
use Rattle.cml_text.specs.declared.sexpr.Span.{Span}
use Rattle.cml_text.specs.Forms.{PlainSexpr, plain_list, PlainForms, no_forms, forms_and, span_of}
use Rattle.cml_check.specs.declared.fault.CheckKind.TheVariants.{Form, Double, Function, Arity, Main, Limit}
use Rattle.cml_check.specs.declared.word.Word.{Word}
use Rattle.cml_check.specs.declared.word.Word.TheVariants as word
use Rattle.cml_check.specs.Syntax.{Name}
use Rattle.cml_check.specs.Checked.{Checked, ◌>>=◌, check_fault}
use Rattle.cml_check.specs.Words.{word_from}
use Rattle.cml_check.specs.Names.{has_name, free_name}

-- the most functions of a script
abbrev pub function_limit : ℕ
function_limit = 1024

-- the head of an item: the function's name and where it stands, its parameters, and the statements after them
pub record PlainHead : Type 0 where
  pub name : Name
  pub at : ℕ
  pub parameters : List Name
  pub body : PlainForms

-- the numbers of parameters of these functions
abbrev pub arities_of : List PlainHead → List ℕ
arities_of heads = map (λ head. length head.parameters) heads

-- the number of the first of these names that is this one
abbrev pub numbered : List Name → Name → Option ℕ
numbered names name = position (bytes_eq name) names

-- the number of the first function of this name
abbrev pub function_number : List PlainHead → Name → Option ℕ
function_number heads name = numbered (map (λ head. head.name) heads) name

-- there is a function, and it takes that many values
abbrev pub is_arity : Option ℕ → ℕ → Bool
is_arity (Some arity) count = nat_eq arity count
is_arity None count = false

-- the function of this number is there, and takes that many values
abbrev pub takes : List ℕ → ℕ → ℕ → Bool
takes arities number count = is_arity (slice_get arities number) count

-- the function, if it is there, where it is given that many values
abbrev pub fitting : List ℕ → ℕ → Span → Option ℕ → Checked ℕ
fitting arities count span None = check_fault Function span
fitting arities count span (Some number) = if takes arities number count then Ok number else check_fault Arity span

-- The form is the name of a function that takes that many values. The function may stand anywhere in the script.
unfoldable pub function_in : List PlainHead → ℕ → PlainSexpr → Checked ℕ
function_in heads count form = do
  name ← free_name form
  fitting (arities_of heads) count (span_of form) (function_number heads name)

-- the parameters of these forms, after those found: names, and none twice
unfoldable pub parameters_from : List Name → PlainForms → Checked (List Name)
parameters_from found no_forms = Ok found
parameters_from found (forms_and form forms) = do
  name ← free_name form
  if has_name found name then check_fault Form (span_of form) else parameters_from (found ++ name ∷ []) forms

unfoldable pub parameters_in : PlainSexpr → Checked (List Name)
parameters_in (plain_list span forms) = parameters_from [] forms
parameters_in form = check_fault Form (span_of form)

-- the head of an item whose parts are these, by the keyword that it begins with: `(fn NAME (PARAMETER*) STATEMENT*)`
unfoldable pub head_by : Span → Option Word → PlainForms → Checked PlainHead
head_by span (Some word.Fn) (forms_and form (forms_and list body)) = do
  name ← free_name form
  parameters ← parameters_in list
  Ok (record { name = name; at = (span_of form).start; parameters = parameters; body = body })
head_by span first forms = check_fault Form span

unfoldable pub head_in : PlainSexpr → Checked PlainHead
head_in (plain_list span (forms_and first behind)) = head_by span (word_from first) behind
head_in form = check_fault Form (span_of form)

-- one more head, after those found: its name must be new
abbrev pub added : List PlainHead → PlainHead → Checked (List PlainHead)
added found head =
    if has_name (map (λ head. head.name) found) head.name then Err (record { kind = Double; at = head.at }) else Ok (found ++ head ∷ [])

-- there may be one more head than those found
abbrev pub may_be_added : List PlainHead → PlainSexpr → Checked (Unit {0})
may_be_added found form = if nat_lt (length found) function_limit then Ok tt else check_fault Limit (span_of form)

-- the heads of these items, after those found
unfoldable pub heads_from : List PlainHead → List PlainSexpr → Checked (List PlainHead)
heads_from found [] = Ok found
heads_from found (form ∷ forms) = do
  _ ← may_be_added found form
  head ← head_in form
  heads ← added found head
  heads_from heads forms

-- where the name of the function of this number stands
abbrev pub name_place : List PlainHead → ℕ → ℕ
name_place heads number = get_or (map (λ head. head.at) heads) number 0

-- `main` is there, and has no parameter
abbrev pub main_by : List PlainHead → Option ℕ → Checked (Unit {0})
main_by heads None = Err (record { kind = Main; at = 0 })
main_by heads (Some number) = if takes (arities_of heads) number 0 then Ok tt else Err (record { kind = Arity; at = name_place heads number })

unfoldable pub main_in : List PlainHead → Checked (Unit {0})
main_in heads = main_by heads (function_number heads (codes "main"))
