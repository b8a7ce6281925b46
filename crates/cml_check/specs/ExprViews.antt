-- The view of each expression of `src/`, made from its fields. The expressions inside are given by their own views.
use Rattle.std.specs.Prelude.{ℕ}
use Rattle.std.specs.Arc.{arc_str_bytes}
use Rattle.cml_check.specs.Syntax.{PlainExpr, constant, number, text, variable, unary, binary, choose, wrap, guard, with_nack}
use Rattle.cml_check.specs.declared.syntax.ExprKind.{ExprKind}
use Rattle.cml_check.specs.declared.syntax.ExprKind.TheVariants as expr

abbrev pub plain_expr : ExprKind → PlainExpr ℕ
plain_expr (expr.Constant c) = constant c
plain_expr (expr.Number z) = number z
plain_expr (expr.Text t) = text (arc_str_bytes t)
plain_expr (expr.Variable v) = variable v
plain_expr (expr.Unary op e) = unary op e.value
plain_expr (expr.Binary op d e) = binary op d.value e.value
plain_expr (expr.Choose es) = choose es
plain_expr (expr.Wrap e n es) = wrap e.value n es
plain_expr (expr.Guard n es) = guard n es
plain_expr (expr.WithNack n es) = with_nack n es
