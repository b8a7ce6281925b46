-- What a call that reads forms says of what it returns, kind by kind. `Finds..`: with the names of its slots it is what checking finds, or
-- the fault that checking finds, unless memory ran out. `..InOrder`: it is in order among these functions and where these names are declared.
use Rattle.std.specs.Prelude.{◌≡◌, ℕ, true, List, length, Result, IfOk}
use Rattle.cml_check.specs.declared.fault.CheckFault.{CheckFault}
use Rattle.cml_check.specs.declared.statement.Scope.{Scope}
use Rattle.cml_check.specs.declared.syntax.Effect.{Effect}
use Rattle.cml_check.specs.declared.syntax.Source.{Source}
use Rattle.cml_check.specs.Syntax.{Name, PlainExpr, PlainEffect, PlainSource, PlainStmt, PlainStmts, expr_map, effect_map, source_map, stmt_map, stmts_map, name_at}
use Rattle.cml_check.specs.StmtViews.{plain_effect, plain_source}
use Rattle.cml_check.specs.Checked.{Checked, Finds}
use Rattle.cml_check.specs.Heads.{PlainHead, arities_of}
use Rattle.cml_check.specs.InOrder.{expr_fits, effect_fits, source_fits, stmt_fits, stmts_fit}

-- the call returned the expression that was found
abbrev pub FindsExpr : List Name → Result (PlainExpr ℕ) CheckFault → Checked (PlainExpr Name) → Type 0
FindsExpr names result found = Finds (expr_map (name_at names)) result found

-- the expression that the call returned is in order
abbrev pub ExprIsInOrder : List PlainHead → List Name → Result (PlainExpr ℕ) CheckFault → Type 0
ExprIsInOrder heads names result = IfOk result (λ e. expr_fits (arities_of heads) (length names) e ≡ true)

-- the call returned the effect that was found
abbrev pub FindsEffect : List Name → Result Effect CheckFault → Checked (PlainEffect Name) → Type 0
FindsEffect names result found = Finds (λ e. effect_map (name_at names) (plain_effect e)) result found

-- the effect that the call returned is in order
abbrev pub EffectIsInOrder : List PlainHead → List Name → Result Effect CheckFault → Type 0
EffectIsInOrder heads names result = IfOk result (λ e. effect_fits (arities_of heads) (length names) (plain_effect e) ≡ true)

-- the call returned what was found for a variable to be set to
abbrev pub FindsSource : List Name → Result Source CheckFault → Checked (PlainSource Name) → Type 0
FindsSource names result found = Finds (λ s. source_map (name_at names) (plain_source s)) result found

-- what the call returned for a variable to be set to is in order
abbrev pub SourceIsInOrder : List PlainHead → List Name → Result Source CheckFault → Type 0
SourceIsInOrder heads names result = IfOk result (λ s. source_fits (arities_of heads) (length names) (plain_source s) ≡ true)

-- the call returned the statement that was found, and the walk has come as far as was found
abbrev pub FindsStmt : Scope → Result (PlainStmt ℕ) CheckFault → Checked (PlainStmt Name × Scope) → Type 0
FindsStmt scope result found = Finds (λ s. (stmt_map (name_at scope.names) s, scope)) result found

-- the statement that the call returned is in order
abbrev pub StmtIsInOrder : List PlainHead → Scope → Result (PlainStmt ℕ) CheckFault → Type 0
StmtIsInOrder heads scope result = IfOk result (λ s. stmt_fits (arities_of heads) (length scope.names) s ≡ true)

-- the call returned the statements that were found, and the walk has come as far as was found
abbrev pub FindsStmts : Scope → Result (PlainStmts ℕ) CheckFault → Checked (PlainStmts Name × Scope) → Type 0
FindsStmts scope result found = Finds (λ ss. (stmts_map (name_at scope.names) ss, scope)) result found

-- the statements that the call returned are in order
abbrev pub StmtsAreInOrder : List PlainHead → Scope → Result (PlainStmts ℕ) CheckFault → Type 0
StmtsAreInOrder heads scope result = IfOk result (λ ss. stmts_fit (arities_of heads) (length scope.names) ss ≡ true)
