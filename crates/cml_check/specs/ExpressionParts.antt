-- The cases of expressions one by one, for the functions of `src/` that take them.
use Rattle.std.specs.Prelude.{◌+◌, List, Ok}
use Rattle.cml_text.specs.declared.sexpr.Span.{Span}
use Rattle.cml_text.specs.Forms.{PlainForms, no_forms, forms_and}
use Rattle.cml_check.specs.declared.fault.CheckKind.TheVariants.{Form}
use Rattle.cml_check.specs.declared.syntax.Unary.{Unary}
use Rattle.cml_check.specs.declared.syntax.Binary.{Binary}
use Rattle.cml_check.specs.Syntax.{Name, PlainExpr, choose, unary, binary, wrap, guard, with_nack}
use Rattle.cml_check.specs.Checked.{Checked, ◌>>=◌, check_fault}
use Rattle.cml_check.specs.Heads.{PlainHead, function_in}
use Rattle.cml_check.specs.Expressions.{count, expr_in, exprs_in, called_in}

unfoldable pub unary_in : List PlainHead → List Name → Span → Unary → PlainForms → Checked (PlainExpr Name)
unary_in heads names span op (forms_and p no_forms) = do
  e ← expr_in heads names p
  Ok (unary op e)
unary_in heads names span op forms = check_fault Form span

unfoldable pub binary_in : List PlainHead → List Name → Span → Binary → PlainForms → Checked (PlainExpr Name)
binary_in heads names span op (forms_and p (forms_and q no_forms)) = do
  d ← expr_in heads names p
  e ← expr_in heads names q
  Ok (binary op d e)
binary_in heads names span op forms = check_fault Form span

unfoldable pub wrap_in : List PlainHead → List Name → Span → PlainForms → Checked (PlainExpr Name)
wrap_in heads names span (forms_and p (forms_and f forms)) = do
  e ← expr_in heads names p
  n ← function_in heads (count forms + 1) f
  es ← exprs_in heads names forms
  Ok (wrap e n es)
wrap_in heads names span forms = check_fault Form span

unfoldable pub choose_in : List PlainHead → List Name → PlainForms → Checked (PlainExpr Name)
choose_in heads names forms = do
  es ← exprs_in heads names forms
  Ok (choose es)

unfoldable pub guard_in : List PlainHead → List Name → Span → PlainForms → Checked (PlainExpr Name)
guard_in heads names span forms = do
  c ← called_in heads names span 0 forms
  Ok (guard c.0 c.1)

unfoldable pub nack_in : List PlainHead → List Name → Span → PlainForms → Checked (PlainExpr Name)
nack_in heads names span forms = do
  c ← called_in heads names span 1 forms
  Ok (with_nack c.0 c.1)
