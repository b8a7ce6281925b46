-- Which form is which statement, by the cases of the notation.
use Rattle.std.specs.Prelude.{ℕ, ◌+◌, Bool, true, false, nat_lt, if◌then◌else◌, List, Option, Some, Ok}
use Rattle.cml_text.specs.declared.sexpr.Span.{Span}
use Rattle.cml_text.specs.Forms.{PlainSexpr, plain_list, PlainForms, no_forms, forms_and, span_of}
use Rattle.cml_check.specs.declared.fault.CheckKind.TheVariants.{Form, Limit}
use Rattle.cml_check.specs.declared.statement.Scope.{Scope}
use Rattle.cml_check.specs.declared.syntax.Act.TheVariants as act_of
use Rattle.cml_check.specs.declared.syntax.ActOnOne.TheVariants as one_of
use Rattle.cml_check.specs.declared.word.Tested.{Tested}
use Rattle.cml_check.specs.declared.word.Tested.TheVariants as tested
use Rattle.cml_check.specs.declared.word.Word.{Word}
use Rattle.cml_check.specs.declared.word.Word.TheVariants as word
use Rattle.cml_check.specs.Syntax.{Name, PlainExpr, PlainEffect, act, act_on_one, act_on_two, call, spawn, PlainSource, value, effect}
use Rattle.cml_check.specs.Syntax.{PlainStmt, let_be, set_to, just_do, if_so, while_so, return_with, PlainStmts, no_stmts, stmts_and}
use Rattle.cml_check.specs.Checked.{Checked, ◌>>=◌, check_fault}
use Rattle.cml_check.specs.Words.{word_from}
use Rattle.cml_check.specs.Names.{with_name, free_name, variable_in}
use Rattle.cml_check.specs.Heads.{PlainHead}
use Rattle.cml_check.specs.Expressions.{expr_in, list_in, called_in}

-- How far a walk through the statements has come is a scope: the names that the function has declared so far, and how many statements
-- the script had so far.

-- the most statements of a script
abbrev pub statement_limit : ℕ
statement_limit = 4096

-- the effect of a list, by the keyword at its head and the forms after it
unfoldable pub effect_in : List PlainHead → List Name → Span → Option Word → PlainForms → Checked (PlainEffect Name)
effect_in heads names span (Some (word.Act a)) no_forms = Ok (act a)
effect_in heads names span (Some word.MVar) no_forms = Ok (act act_of.MVar)
effect_in heads names span (Some word.MVar) (forms_and p no_forms) = do
  e ← expr_in heads names p
  Ok (act_on_one one_of.MVar e)
effect_in heads names span (Some (word.ActOnOne a)) (forms_and p no_forms) = do
  e ← expr_in heads names p
  Ok (act_on_one a e)
effect_in heads names span (Some (word.ActOnTwo a)) (forms_and p (forms_and q no_forms)) = do
  d ← expr_in heads names p
  e ← expr_in heads names q
  Ok (act_on_two a d e)
effect_in heads names span (Some word.Call) forms = do
  c ← called_in heads names span 0 forms
  Ok (call c.0 c.1)
effect_in heads names span (Some word.Spawn) forms = do
  c ← called_in heads names span 0 forms
  Ok (spawn c.0 c.1)
effect_in heads names span first forms = check_fault Form span

-- the keyword begins an effect
abbrev pub is_effect : Option Word → Bool
is_effect (Some (word.Act a)) = true
is_effect (Some (word.ActOnOne a)) = true
is_effect (Some (word.ActOnTwo a)) = true
is_effect (Some word.MVar) = true
is_effect (Some word.Call) = true
is_effect (Some word.Spawn) = true
is_effect _ = false

-- what a `let` gives its variable: an effect by its keyword, else an expression
abbrev pub effect_source : List PlainHead → List Name → Span → Option Word → PlainForms → Checked (PlainSource Name)
effect_source heads names span first forms = do
  e ← effect_in heads names span first forms
  Ok (effect e)

abbrev pub value_source : List PlainHead → List Name → Span → Option Word → PlainForms → Checked (PlainSource Name)
value_source heads names span first forms = do
  e ← list_in heads names span first forms
  Ok (value e)

unfoldable pub source_by : List PlainHead → List Name → Span → Option Word → PlainForms → Checked (PlainSource Name)
source_by heads names span first forms =
    if is_effect first then effect_source heads names span first forms else value_source heads names span first forms

abbrev pub form_source : List PlainHead → List Name → PlainSexpr → Checked (PlainSource Name)
form_source heads names form = do
  e ← expr_in heads names form
  Ok (value e)

unfoldable pub source_in : List PlainHead → List Name → PlainSexpr → Checked (PlainSource Name)
source_in heads names (plain_list span (forms_and first behind)) = source_by heads names span (word_from first) behind
source_in heads names form = form_source heads names form

-- the statement that this keyword makes of its condition and its statements
abbrev pub tested_stmt : {V : Type 0} → Tested → PlainExpr V → PlainStmts V → PlainStmt V
tested_stmt tested.While e a = while_so e a

-- one statement more, unless the script has as many as it may
abbrev pub statement_counted : Scope → Span → Checked Scope
statement_counted scope span = if nat_lt scope.statements statement_limit then Ok (record scope { statements = scope.statements + 1 }) else check_fault Limit span

-- what the forms after the keyword are found to be, where it is `do`; a fault where it is another
abbrev pub behind_do : {A : Type 0} → Span → Option Word → Checked A → Checked A
behind_do span (Some word.Do) found = found
behind_do span first found = check_fault Form span

unfoldable mutual
  -- the statement that a form is, and how far the walk has come after it
  pub stmt_in : List PlainHead → Scope → PlainSexpr → Checked (PlainStmt Name × Scope)
  stmt_in heads scope (plain_list span (forms_and first behind)) = stmt_by heads scope span (word_from first) behind
  stmt_in heads scope form = check_fault Form (span_of form)

  -- A `let` declares its name for all that follows it in the function's text, but not for what it gives that name.
  pub stmt_by : List PlainHead → Scope → Span → Option Word → PlainForms → Checked (PlainStmt Name × Scope)
  stmt_by heads scope span (Some word.Let) (forms_and x (forms_and r no_forms)) = do
    name ← free_name x
    source ← source_in heads scope.names r
    Ok (let_be name source, record scope { names = with_name scope.names name })
  stmt_by heads scope span (Some word.Set) (forms_and x (forms_and p no_forms)) = do
    name ← variable_in scope.names x
    e ← expr_in heads scope.names p
    Ok (set_to name e, scope)
  stmt_by heads scope span (Some word.If) (forms_and p (forms_and x (forms_and y no_forms))) = do
    e ← expr_in heads scope.names p
    a ← block_in heads scope x
    b ← block_in heads a.1 y
    Ok (if_so e a.0 b.0, b.1)
  stmt_by heads scope span (Some (word.Tested test)) (forms_and p forms) = do
    e ← expr_in heads scope.names p
    a ← stmts_in heads scope forms
    Ok (tested_stmt test e a.0, a.1)
  stmt_by heads scope span (Some word.Return) (forms_and p no_forms) = do
    e ← expr_in heads scope.names p
    Ok (return_with e, scope)
  stmt_by heads scope span first forms = do
    e ← effect_in heads scope.names span first forms
    Ok (just_do e, scope)

  -- the statements of a branch: `(do STATEMENT*)`
  pub block_in : List PlainHead → Scope → PlainSexpr → Checked (PlainStmts Name × Scope)
  block_in heads scope (plain_list span (forms_and first behind)) = behind_do span (word_from first) (stmts_in heads scope behind)
  block_in heads scope form = check_fault Form (span_of form)

  -- the statements that these forms are: each is counted before it is looked at
  pub stmts_in : List PlainHead → Scope → PlainForms → Checked (PlainStmts Name × Scope)
  stmts_in heads scope no_forms = Ok (no_stmts, scope)
  stmts_in heads scope (forms_and form forms) = do
    at ← statement_counted scope (span_of form)
    s ← stmt_in heads at form
    ss ← stmts_in heads s.1 forms
    Ok (stmts_and s.0 ss.0, ss.1)
