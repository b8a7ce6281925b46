-- The statements of a script's functions, as forms, in the order of the text.
use Rattle.std.specs.Prelude.{List, [], ◌∷◌, ◌++◌, map, Option, Some, None}
use Rattle.cml_text.specs.declared.sexpr.Span.{Span}
use Rattle.cml_text.specs.Forms.{PlainSexpr, plain_list, PlainForms, no_forms, forms_and, span_of}
use Rattle.cml_check.specs.Words.{word_from}
use Rattle.cml_phrase.specs.declared.keyword.Keyword.{Keyword}
use Rattle.cml_phrase.specs.declared.keyword.Keyword.TheVariants as keyword
use Rattle.cml_phrase.specs.Keywords.{keyword_for}

abbrev mutual
  -- a statement, and then those inside it
  pub statements_in : PlainSexpr → List PlainSexpr
  statements_in (plain_list span (forms_and first behind)) = plain_list span (forms_and first behind) ∷ inner_statements (keyword_for (word_from first)) behind
  statements_in form = form ∷ []

  -- those inside a statement, by its keyword and the forms after it
  pub inner_statements : Keyword → PlainForms → List PlainSexpr
  inner_statements keyword.If (forms_and p (forms_and x (forms_and y no_forms))) = block_statements x ++ block_statements y
  inner_statements keyword.Tested (forms_and p forms) = all_statements forms
  inner_statements first forms = []

  -- those of a branch, which stand behind its keyword
  pub block_statements : PlainSexpr → List PlainSexpr
  block_statements (plain_list span (forms_and first behind)) = all_statements behind
  block_statements form = []

  pub all_statements : PlainForms → List PlainSexpr
  all_statements no_forms = []
  all_statements (forms_and form forms) = statements_in form ++ all_statements forms

-- the forms of a list; none where it is no list
abbrev pub parts_of : PlainSexpr → PlainForms
parts_of (plain_list span forms) = forms
parts_of form = no_forms

-- those of a function, which stand behind its keyword, its name and its parameters
abbrev pub body_statements : PlainForms → List PlainSexpr
body_statements (forms_and first (forms_and name (forms_and parameters body))) = all_statements body
body_statements forms = []

abbrev pub item_statements : PlainSexpr → List PlainSexpr
item_statements item = body_statements (parts_of item)

abbrev pub found_statements : Option PlainSexpr → List PlainSexpr
found_statements (Some item) = item_statements item
found_statements None = []

-- where each stands
abbrev pub spans_of : Option PlainSexpr → List Span
spans_of (Some item) = map span_of (item_statements item)
spans_of None = []
