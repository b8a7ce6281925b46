-- The names that the forms of a script give its functions and their variables.
use Rattle.std.specs.Prelude.{ℕ, List, [], ◌∷◌, ◌++◌, map, slice_get, Option, Some, None}
use Rattle.std.specs.List.{flat_map, fold}
use Rattle.cml_text.specs.Forms.{PlainSexpr, plain_name, plain_list, PlainForms, no_forms, forms_and, forms_list}
use Rattle.cml_check.specs.Syntax.{Name}
use Rattle.cml_check.specs.Words.{word_from}
use Rattle.cml_check.specs.Names.{with_name}
use Rattle.cml_phrase.specs.declared.keyword.Keyword.{Keyword}
use Rattle.cml_phrase.specs.declared.keyword.Keyword.TheVariants as keyword
use Rattle.cml_phrase.specs.Keywords.{keyword_for}
use Rattle.cml_phrase.specs.Statements.{parts_of, item_statements}

-- how a form is spelled that is a name; nothing of another
abbrev pub form_name : PlainSexpr → Name
form_name (plain_name span name) = name
form_name form = []

-- the name of the function that an item is: what stands behind its keyword
abbrev pub name_among : PlainForms → Name
name_among (forms_and first (forms_and name behind)) = form_name name
name_among forms = []

abbrev pub name_of_item : Option PlainSexpr → Name
name_of_item (Some item) = name_among (parts_of item)
name_of_item None = []

abbrev pub function_name : List PlainSexpr → ℕ → Name
function_name forms func = name_of_item (slice_get forms func)

-- the name that a statement declares, by its keyword and the forms after it
abbrev pub let_by : Keyword → PlainForms → List Name
let_by keyword.Let (forms_and x (forms_and r no_forms)) = form_name x ∷ []
let_by first forms = []

abbrev pub let_name : PlainSexpr → List Name
let_name (plain_list span (forms_and first behind)) = let_by (keyword_for (word_from first)) behind
let_name form = []

-- the parameters of the function that an item is: the parts of the list behind its name
abbrev pub parameters_among : PlainForms → PlainForms
parameters_among (forms_and first (forms_and name (forms_and list body))) = parts_of list
parameters_among forms = no_forms

abbrev pub parameter_names : PlainSexpr → List Name
parameter_names item = map form_name (forms_list (parameters_among (parts_of item)))

-- The names that an item declares, each once, in the order in which they are declared: its parameters, and what each `let` declares.
abbrev pub declared_names : PlainSexpr → List Name
declared_names item = fold with_name [] (parameter_names item ++ flat_map let_name (item_statements item))

-- the names of the slots of a function
abbrev pub slots_of : Option PlainSexpr → List Name
slots_of (Some item) = declared_names item
slots_of None = []

abbrev pub slot_names : List PlainSexpr → ℕ → List Name
slot_names forms func = slots_of (slice_get forms func)
