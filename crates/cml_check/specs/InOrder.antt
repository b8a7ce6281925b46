-- When a program is in order: each slot is one of its function's, each function is there, and each gets as many values as it takes.
use Rattle.std.specs.Prelude.{◌≡◌, ℕ, ◌+◌, ◌≤◌, List, length, map, All, Bool, true, ◌&&◌, nat_lt, codes, Some}
use Rattle.cml_check.specs.Syntax.{PlainExpr, constant, number, text, variable, unary, binary, choose, wrap, guard, with_nack, PlainExprs, no_exprs, exprs_and}
use Rattle.cml_check.specs.Syntax.{PlainEffect, act, act_on_one, act_on_two, call, spawn, PlainSource, value, effect}
use Rattle.cml_check.specs.Syntax.{Name, PlainStmt, let_be, set_to, just_do, if_so, while_so, return_with, PlainStmts, no_stmts, stmts_and, PlainItem}
use Rattle.cml_check.specs.Names.{AreDistinct}
use Rattle.cml_check.specs.Heads.{takes, numbered}
use Rattle.cml_check.specs.Sizes.{statements_of, size_of, IsWithinSize}

abbrev pub exprs_count : {V : Type 0} → PlainExprs V → ℕ
exprs_count no_exprs = 0
exprs_count (exprs_and e es) = exprs_count es + 1

-- Among functions of these arities, in a function of that many slots. A wrap and a withNack hand their function one value more than it
-- has captured.
abbrev mutual
  pub expr_fits : List ℕ → ℕ → PlainExpr ℕ → Bool
  expr_fits arities slots (constant c) = true
  expr_fits arities slots (number z) = true
  expr_fits arities slots (text bytes) = true
  expr_fits arities slots (variable v) = nat_lt v slots
  expr_fits arities slots (unary op e) = expr_fits arities slots e
  expr_fits arities slots (binary op d e) = expr_fits arities slots d && expr_fits arities slots e
  expr_fits arities slots (choose es) = exprs_fit arities slots es
  expr_fits arities slots (wrap e n es) = expr_fits arities slots e && exprs_fit arities slots es && takes arities n (exprs_count es + 1)
  expr_fits arities slots (guard n es) = exprs_fit arities slots es && takes arities n (exprs_count es)
  expr_fits arities slots (with_nack n es) = exprs_fit arities slots es && takes arities n (exprs_count es + 1)

  pub exprs_fit : List ℕ → ℕ → PlainExprs ℕ → Bool
  exprs_fit arities slots no_exprs = true
  exprs_fit arities slots (exprs_and e es) = expr_fits arities slots e && exprs_fit arities slots es

abbrev pub effect_fits : List ℕ → ℕ → PlainEffect ℕ → Bool
effect_fits arities slots (act a) = true
effect_fits arities slots (act_on_one a e) = expr_fits arities slots e
effect_fits arities slots (act_on_two a d e) = expr_fits arities slots d && expr_fits arities slots e
effect_fits arities slots (call n es) = exprs_fit arities slots es && takes arities n (exprs_count es)
effect_fits arities slots (spawn n es) = exprs_fit arities slots es && takes arities n (exprs_count es)

abbrev pub source_fits : List ℕ → ℕ → PlainSource ℕ → Bool
source_fits arities slots (value e) = expr_fits arities slots e
source_fits arities slots (effect e) = effect_fits arities slots e

abbrev mutual
  pub stmt_fits : List ℕ → ℕ → PlainStmt ℕ → Bool
  stmt_fits arities slots (let_be v r) = nat_lt v slots && source_fits arities slots r
  stmt_fits arities slots (set_to v e) = nat_lt v slots && expr_fits arities slots e
  stmt_fits arities slots (just_do e) = effect_fits arities slots e
  stmt_fits arities slots (if_so e a b) = expr_fits arities slots e && stmts_fit arities slots a && stmts_fit arities slots b
  stmt_fits arities slots (while_so e a) = expr_fits arities slots e && stmts_fit arities slots a
  stmt_fits arities slots (return_with e) = expr_fits arities slots e

  pub stmts_fit : List ℕ → ℕ → PlainStmts ℕ → Bool
  stmts_fit arities slots no_stmts = true
  stmts_fit arities slots (stmts_and s ss) = stmt_fits arities slots s && stmts_fit arities slots ss

abbrev pub arities : List (PlainItem ℕ) → List ℕ
arities functions = map (λ f. f.arity) functions

-- a function is in order among functions of these arities
pub record FunctionFits (arities : List ℕ) (f : PlainItem ℕ) : Type 0 where
  pub distinct : AreDistinct f.names
  pub room : f.arity ≤ length f.names
  pub fits : stmts_fit arities (length f.names) f.body ≡ true

-- each of the functions is in order among all of them
abbrev pub InOrder : List (PlainItem ℕ) → Type 0
InOrder functions = All (FunctionFits (arities functions)) functions

abbrev pub names_of : List (PlainItem ℕ) → List Name
names_of functions = map (λ f. f.name) functions

-- a program of that many statements: each function is in order, the one of this number is `main`, which takes no value, and neither
-- limit is passed
pub record IsProgram (main statements : ℕ) (functions : List (PlainItem ℕ)) : Type 0 where
  pub order : InOrder functions
  pub found : numbered (names_of functions) (codes "main") ≡ Some main
  pub takes : takes (arities functions) main 0 ≡ true
  pub counted : statements ≡ statements_of functions
  pub within : IsWithinSize (size_of functions)
