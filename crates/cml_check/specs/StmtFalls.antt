-- No statement inside another is as deep as it.
use Rattle.std.specs.Prelude.{ℕ, ◌+◌, ◌≤◌, max, List, [], ◌∷◌}
use Rattle.std.proofs.Common.{arith}
use denote.Param.Weighed.{most}
use Rattle.cml_check.specs.Syntax.{PlainStmt, stmts, stmt_depth, stmts_depth}
use Rattle.cml_check.specs.StmtViews.{plain_stmt}
use Rattle.cml_check.specs.declared.syntax.StmtKind.{StmtKind}
use Rattle.cml_check.specs.declared.syntax.StmtKind.TheVariants as stmt
use Rattle.cml_check.specs.declared.syntax.Block.TheDeep.{deep-StmtKind}

pub most-stmts_depth : (ss : List (PlainStmt ℕ)) → most (λ s. stmt_depth s + 1) ss ≤ stmts_depth (stmts ss)
most-stmts_depth [] = omega arith
most-stmts_depth (s ∷ ss) = omega (arith, most-stmts_depth ss)

pub deep_le-stmt_depth : (n : StmtKind) → max (deep-StmtKind n) 0 ≤ stmt_depth (plain_stmt n)
deep_le-stmt_depth (stmt.Let v r) = omega arith
deep_le-stmt_depth (stmt.Set v e) = omega arith
deep_le-stmt_depth (stmt.Do e) = omega arith
deep_le-stmt_depth (stmt.If e a b) = omega arith
deep_le-stmt_depth (stmt.While e a) = omega arith
deep_le-stmt_depth (stmt.Return e) = omega arith
