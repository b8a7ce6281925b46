-- The view of a statement.
use Rattle.std.specs.Prelude.{ℕ}
use Rattle.cml_check.specs.Syntax.{PlainEffect, act, act_on_one, act_on_two, call, spawn, PlainSource, value, effect}
use Rattle.cml_check.specs.Syntax.{PlainStmt, let_be, set_to, just_do, if_so, while_so, return_with}
use Rattle.cml_check.specs.declared.syntax.Effect.{Effect}
use Rattle.cml_check.specs.declared.syntax.Effect.TheVariants as effects
use Rattle.cml_check.specs.declared.syntax.Source.{Source}
use Rattle.cml_check.specs.declared.syntax.Source.TheVariants as source
use Rattle.cml_check.specs.declared.syntax.StmtKind.{StmtKind}
use Rattle.cml_check.specs.declared.syntax.StmtKind.TheVariants as stmt

abbrev pub plain_effect : Effect → PlainEffect ℕ
plain_effect (effects.Act a) = act a
plain_effect (effects.ActOnOne a e) = act_on_one a e
plain_effect (effects.ActOnTwo a d e) = act_on_two a d e
plain_effect (effects.Call n es) = call n es
plain_effect (effects.Spawn n es) = spawn n es

abbrev pub plain_source : Source → PlainSource ℕ
plain_source (source.Value e) = value e
plain_source (source.Effect e) = effect (plain_effect e)

abbrev pub plain_stmt : StmtKind → PlainStmt ℕ
plain_stmt (stmt.Let v r) = let_be v (plain_source r)
plain_stmt (stmt.Set v e) = set_to v e
plain_stmt (stmt.Do e) = just_do (plain_effect e)
plain_stmt (stmt.If e a b) = if_so e a b
plain_stmt (stmt.While e a) = while_so e a
plain_stmt (stmt.Return e) = return_with e
