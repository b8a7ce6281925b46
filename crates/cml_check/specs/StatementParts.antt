-- The cases of statements one by one, for the functions of `src/` that take them.
use Rattle.std.specs.Prelude.{◌≡◌, List, ◌++◌, Option, Ok}
use Rattle.cml_text.specs.declared.sexpr.Span.{Span}
use Rattle.cml_text.specs.Forms.{PlainSexpr, PlainForms, no_forms, forms_and}
use Rattle.cml_check.specs.declared.fault.CheckKind.TheVariants.{Form}
use Rattle.cml_check.specs.declared.statement.Scope.{Scope}
use Rattle.cml_check.specs.declared.word.Tested.{Tested}
use Rattle.cml_check.specs.declared.word.Word.{Word}
use Rattle.cml_check.specs.Syntax.{Name, PlainStmt, let_be, set_to, just_do, if_so, return_with}
use Rattle.cml_check.specs.Checked.{Checked, ◌>>=◌, check_fault}
use Rattle.cml_check.specs.Names.{with_name, free_name, variable_in}
use Rattle.cml_check.specs.Heads.{PlainHead}
use Rattle.cml_check.specs.Expressions.{expr_in}
use Rattle.cml_check.specs.Statements.{effect_in, source_in, tested_stmt, block_in, stmts_in}

-- names were declared after the old ones
abbrev pub Grows : List Name → List Name → Type 0
Grows old new = (more : List Name) × (new ≡ old ++ more)

unfoldable pub let_of : List PlainHead → Scope → PlainSexpr → PlainSexpr → Checked (PlainStmt Name × Scope)
let_of heads scope x r = do
  name ← free_name x
  source ← source_in heads scope.names r
  Ok (let_be name source, record scope { names = with_name scope.names name })

unfoldable pub let_in : List PlainHead → Scope → Span → PlainForms → Checked (PlainStmt Name × Scope)
let_in heads scope span (forms_and x (forms_and r no_forms)) = let_of heads scope x r
let_in heads scope span forms = check_fault Form span

unfoldable pub set_in : List PlainHead → Scope → Span → PlainForms → Checked (PlainStmt Name × Scope)
set_in heads scope span (forms_and x (forms_and p no_forms)) = do
  name ← variable_in scope.names x
  e ← expr_in heads scope.names p
  Ok (set_to name e, scope)
set_in heads scope span forms = check_fault Form span

unfoldable pub if_of : List PlainHead → Scope → PlainSexpr → PlainSexpr → PlainSexpr → Checked (PlainStmt Name × Scope)
if_of heads scope p x y = do
  e ← expr_in heads scope.names p
  a ← block_in heads scope x
  b ← block_in heads a.1 y
  Ok (if_so e a.0 b.0, b.1)

unfoldable pub if_in : List PlainHead → Scope → Span → PlainForms → Checked (PlainStmt Name × Scope)
if_in heads scope span (forms_and p (forms_and x (forms_and y no_forms))) = if_of heads scope p x y
if_in heads scope span forms = check_fault Form span

unfoldable pub tested_of : List PlainHead → Scope → Tested → PlainSexpr → PlainForms → Checked (PlainStmt Name × Scope)
tested_of heads scope test p forms = do
  e ← expr_in heads scope.names p
  a ← stmts_in heads scope forms
  Ok (tested_stmt test e a.0, a.1)

unfoldable pub tested_in : List PlainHead → Scope → Span → Tested → PlainForms → Checked (PlainStmt Name × Scope)
tested_in heads scope span test (forms_and p forms) = tested_of heads scope test p forms
tested_in heads scope span test forms = check_fault Form span

unfoldable pub return_in : List PlainHead → Scope → Span → PlainForms → Checked (PlainStmt Name × Scope)
return_in heads scope span (forms_and p no_forms) = do
  e ← expr_in heads scope.names p
  Ok (return_with e, scope)
return_in heads scope span forms = check_fault Form span

unfoldable pub do_in : List PlainHead → Scope → Span → Option Word → PlainForms → Checked (PlainStmt Name × Scope)
do_in heads scope span first forms = do
  e ← effect_in heads scope.names span first forms
  Ok (just_do e, scope)
