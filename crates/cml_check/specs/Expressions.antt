-- Which form is which expression, by the cases of the notation. A form that fits no case is at fault itself, before its parts.
use Rattle.std.specs.Prelude.{ℕ, ◌+◌, if◌then◌else◌, List, Option, Some, None, Ok}
use Rattle.cml_text.specs.declared.sexpr.Span.{Span}
use Rattle.cml_text.specs.Forms.{PlainSexpr, plain_name, plain_int, plain_text, plain_list, PlainForms, no_forms, forms_and}
use Rattle.cml_check.specs.declared.fault.CheckKind.TheVariants.{Form, Unbound}
use Rattle.cml_check.specs.declared.word.Word.{Word}
use Rattle.cml_check.specs.declared.word.Word.TheVariants as word
use Rattle.cml_check.specs.Syntax.{Name, PlainExpr, constant, number, text, variable, unary, binary, choose, wrap, guard, with_nack, PlainExprs, no_exprs, exprs_and}
use Rattle.cml_check.specs.Checked.{Checked, ◌>>=◌, check_fault}
use Rattle.cml_check.specs.Words.{word_of, word_from}
use Rattle.cml_check.specs.Names.{has_name}
use Rattle.cml_check.specs.Heads.{PlainHead, function_in}

-- how many forms these are
abbrev pub count : PlainForms → ℕ
count no_forms = 0
count (forms_and form forms) = count forms + 1

-- a name: one of the four constants, or a variable
abbrev pub name_in : List Name → Span → Name → Option Word → Checked (PlainExpr Name)
name_in names span name (Some (word.Constant c)) = Ok (constant c)
name_in names span name (Some word) = check_fault Form span
name_in names span name None = if has_name names name then Ok (variable name) else check_fault Unbound span

unfoldable mutual
  -- the expression that a form is, among these functions and where these names are declared
  pub expr_in : List PlainHead → List Name → PlainSexpr → Checked (PlainExpr Name)
  expr_in heads names (plain_int span z) = Ok (number z)
  expr_in heads names (plain_text span bytes) = Ok (text bytes)
  expr_in heads names (plain_name span name) = name_in names span name (word_of name)
  expr_in heads names (plain_list span no_forms) = check_fault Form span
  expr_in heads names (plain_list span (forms_and first behind)) = list_in heads names span (word_from first) behind

  -- the expression of a list, by the keyword at its head and the forms after it
  pub list_in : List PlainHead → List Name → Span → Option Word → PlainForms → Checked (PlainExpr Name)
  list_in heads names span (Some (word.Unary op)) (forms_and p no_forms) = do
    e ← expr_in heads names p
    Ok (unary op e)
  list_in heads names span (Some (word.Binary op)) (forms_and p (forms_and q no_forms)) = do
    d ← expr_in heads names p
    e ← expr_in heads names q
    Ok (binary op d e)
  list_in heads names span (Some word.Choose) no_forms = Ok (choose no_exprs)
  list_in heads names span (Some word.Choose) (forms_and p forms) = do
    e ← expr_in heads names p
    es ← exprs_in heads names forms
    Ok (choose (exprs_and e es))
  list_in heads names span (Some word.Wrap) (forms_and p (forms_and f forms)) = do
    e ← expr_in heads names p
    n ← function_in heads (count forms + 1) f
    es ← exprs_in heads names forms
    Ok (wrap e n es)
  list_in heads names span (Some word.Guard) (forms_and f forms) = do
    n ← function_in heads (count forms) f
    es ← exprs_in heads names forms
    Ok (guard n es)
  list_in heads names span (Some word.WithNack) (forms_and f forms) = do
    n ← function_in heads (count forms + 1) f
    es ← exprs_in heads names forms
    Ok (with_nack n es)
  list_in heads names span first forms = check_fault Form span

  -- the expressions that these forms are
  pub exprs_in : List PlainHead → List Name → PlainForms → Checked (PlainExprs Name)
  exprs_in heads names no_forms = Ok no_exprs
  exprs_in heads names (forms_and form forms) = do
    e ← expr_in heads names form
    es ← exprs_in heads names forms
    Ok (exprs_and e es)

-- a function by its name and what it is given: these values, and that many more, which it gets later
unfoldable pub called_in : List PlainHead → List Name → Span → ℕ → PlainForms → Checked (ℕ × PlainExprs Name)
called_in heads names span more no_forms = check_fault Form span
called_in heads names span more (forms_and f forms) = do
  n ← function_in heads (count forms + more) f
  es ← exprs_in heads names forms
  Ok (n, es)
