-- The names that a script declares.
use Rattle.std.specs.Prelude.{◌≡◌, Bool, false, if◌then◌else◌, List, [], ◌∷◌, ◌++◌, Ok, is_some}
use Rattle.std.specs.List.{list_any}
use Rattle.std.specs.Str.{bytes_eq}
use Rattle.cml_text.specs.Forms.{PlainSexpr, plain_name, span_of}
use Rattle.cml_check.specs.declared.fault.CheckKind.TheVariants.{Form, Unbound}
use Rattle.cml_check.specs.Syntax.{Name}
use Rattle.cml_check.specs.Checked.{Checked, ◌>>=◌, check_fault}
use Rattle.cml_check.specs.Words.{word_of}

-- the name stands among these
abbrev pub has_name : List Name → Name → Bool
has_name names name = list_any (bytes_eq name) names

-- these names and this one: a name that stands among them already is not declared anew
abbrev pub with_name : List Name → Name → List Name
with_name names name = if has_name names name then names else names ++ name ∷ []

-- no name stands twice
abbrev pub AreDistinct : List Name → Type 0
AreDistinct [] = Unit {0}
AreDistinct (name ∷ names) = (has_name names name ≡ false) × AreDistinct names

-- The form is a name for a function or a variable: any but the keywords.
unfoldable pub free_name : PlainSexpr → Checked Name
free_name (plain_name span name) = if is_some (word_of name) then check_fault Form span else Ok name
free_name form = check_fault Form (span_of form)

-- the form is the name of a variable that is declared
unfoldable pub variable_in : List Name → PlainSexpr → Checked Name
variable_in names form = do
  name ← free_name form
  if has_name names name then Ok name else check_fault Unbound (span_of form)
