-- How large a program is: how many functions it has, and how many statements.
use Rattle.std.specs.Prelude.{ℕ, ◌+◌, ◌≤◌, List, length, sum_by}
use Rattle.cml_check.specs.declared.size.Size.{Size}
use Rattle.cml_check.specs.Syntax.{PlainStmt, let_be, set_to, just_do, if_so, while_so, return_with, PlainStmts, no_stmts, stmts_and, PlainItem}
use Rattle.cml_check.specs.Heads.{function_limit}
use Rattle.cml_check.specs.Statements.{statement_limit}

-- A statement is one, and those of its branches are counted with it. The keyword `do` of a branch is no statement.
abbrev mutual
  pub stmt_count : {V : Type 0} → PlainStmt V → ℕ
  stmt_count (let_be v r) = 1
  stmt_count (set_to v e) = 1
  stmt_count (just_do e) = 1
  stmt_count (if_so e a b) = stmts_count a + stmts_count b + 1
  stmt_count (while_so e a) = stmts_count a + 1
  stmt_count (return_with e) = 1

  pub stmts_count : {V : Type 0} → PlainStmts V → ℕ
  stmts_count no_stmts = 0
  stmts_count (stmts_and s ss) = stmt_count s + stmts_count ss

-- the statements of all these functions
abbrev pub statements_of : {V : Type 0} → List (PlainItem V) → ℕ
statements_of functions = sum_by (λ f. stmts_count f.body) functions

abbrev pub size_of : List (PlainItem ℕ) → Size
size_of functions = record { functions = length functions; statements = statements_of functions }

-- the size is one that a program may have: there is at least one function, and neither limit is passed
abbrev pub IsWithinSize : Size → Type 0
IsWithinSize size = (1 ≤ size.functions) × (size.functions ≤ function_limit) × (size.statements ≤ statement_limit)
