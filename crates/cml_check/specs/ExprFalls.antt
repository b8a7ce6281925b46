-- No expression inside another is as deep as it.
use Rattle.std.specs.Prelude.{ℕ, ◌+◌, ◌≤◌, max, List, [], ◌∷◌}
use Rattle.std.proofs.Common.{arith}
use denote.Param.Weighed.{most}
use Rattle.cml_check.specs.Syntax.{PlainExpr, exprs, expr_depth, exprs_depth}
use Rattle.cml_check.specs.ExprViews.{plain_expr}
use Rattle.cml_check.specs.declared.syntax.ExprKind.{ExprKind}
use Rattle.cml_check.specs.declared.syntax.ExprKind.TheVariants as expr
use Rattle.cml_check.specs.declared.syntax.Expr.TheDeep.{deep-ExprKind}

pub most-exprs_depth : (es : List (PlainExpr ℕ)) → most (λ e. expr_depth e + 1) es ≤ exprs_depth (exprs es)
most-exprs_depth [] = omega arith
most-exprs_depth (e ∷ es) = omega (arith, most-exprs_depth es)

pub deep_le-expr_depth : (n : ExprKind) → max (deep-ExprKind n) 0 ≤ expr_depth (plain_expr n)
deep_le-expr_depth (expr.Constant c) = omega arith
deep_le-expr_depth (expr.Number z) = omega arith
deep_le-expr_depth (expr.Text t) = omega arith
deep_le-expr_depth (expr.Variable v) = omega arith
deep_le-expr_depth (expr.Unary op e) = omega arith
deep_le-expr_depth (expr.Binary op d e) = omega arith
deep_le-expr_depth (expr.Choose es) = omega arith
deep_le-expr_depth (expr.Wrap e n es) = omega arith
deep_le-expr_depth (expr.Guard n es) = omega arith
deep_le-expr_depth (expr.WithNack n es) = omega arith
