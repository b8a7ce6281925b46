-- How the statements of a function are laid flat: one instruction for each statement, in the order of the text. The place of an instruction
-- is its number, from 0 on. It names the places where the function goes on. No instruction stands at the place after the last one, and no
-- statement is left there.
use Rattle.std.specs.Prelude.{ℕ, ◌+◌, List, [], ◌∷◌, ◌++◌, get_or}
use Rattle.cml_check.specs.Syntax.{PlainExpr, PlainEffect, PlainSource, PlainStmt, let_be, set_to, just_do, if_so, while_so, return_with, PlainStmts, no_stmts, stmts_and}
use Rattle.cml_check.specs.Sizes.{stmt_count, stmts_count}

-- one list of statements, and then another
abbrev pub and_then : {V : Type 0} → PlainStmts V → PlainStmts V → PlainStmts V
and_then no_stmts left = left
and_then (stmts_and s ss) left = stmts_and s (and_then ss left)

-- A statement, without those inside it, and the places after it: of a choice the place where its test holds and then the one where it does
-- not, of a loop the place of the statements inside and then the one after the loop.
pub data PlainInstr : Type 0 where
  let_then : ℕ → PlainSource ℕ → ℕ → PlainInstr
  set_then : ℕ → PlainExpr ℕ → ℕ → PlainInstr
  do_then : PlainEffect ℕ → ℕ → PlainInstr
  if_then : PlainExpr ℕ → ℕ → ℕ → PlainInstr
  while_then : PlainExpr ℕ → ℕ → ℕ → PlainInstr
  return_then : PlainExpr ℕ → PlainInstr

-- where statements begin that are laid from `base` on: with no statement, at the place after them
abbrev pub entry : ℕ → PlainStmts ℕ → ℕ → ℕ
entry base no_stmts next = next
entry base (stmts_and s ss) next = base

-- The instructions of a statement, and of statements, that are laid from `base` on, where `next` is the place after them. The statements of a
-- loop go on at the loop itself, those of a choice where the choice goes on.
abbrev mutual
  pub stmt_code : ℕ → PlainStmt ℕ → ℕ → List PlainInstr
  stmt_code base (let_be x r) next = let_then x r next ∷ []
  stmt_code base (set_to x e) next = set_then x e next ∷ []
  stmt_code base (just_do e) next = do_then e next ∷ []
  stmt_code base (if_so e a b) next =
      if_then e (entry (base + 1) a next) (entry (base + 1 + stmts_count a) b next) ∷ (stmts_code (base + 1) a next ++ stmts_code (base + 1 + stmts_count a) b next)
  stmt_code base (while_so e a) next = while_then e (entry (base + 1) a base) next ∷ stmts_code (base + 1) a base
  stmt_code base (return_with e) next = return_then e ∷ []

  pub stmts_code : ℕ → PlainStmts ℕ → ℕ → List PlainInstr
  stmts_code base no_stmts next = []
  stmts_code base (stmts_and s ss) next = stmt_code base s (entry (base + stmt_count s) ss next) ++ stmts_code (base + stmt_count s) ss next

-- the statements that are left at each place of a statement, and of statements, where `rest` are those after them
abbrev mutual
  pub stmt_lefts : PlainStmt ℕ → PlainStmts ℕ → List (PlainStmts ℕ)
  stmt_lefts (if_so e a b) rest = stmts_and (if_so e a b) rest ∷ (stmts_lefts a rest ++ stmts_lefts b rest)
  stmt_lefts (while_so e a) rest = stmts_and (while_so e a) rest ∷ stmts_lefts a (stmts_and (while_so e a) rest)
  stmt_lefts s rest = stmts_and s rest ∷ []

  pub stmts_lefts : PlainStmts ℕ → PlainStmts ℕ → List (PlainStmts ℕ)
  stmts_lefts no_stmts rest = []
  stmts_lefts (stmts_and s ss) rest = stmt_lefts s (and_then ss rest) ++ stmts_lefts ss rest

-- the instructions of a body
abbrev pub code_of : PlainStmts ℕ → List PlainInstr
code_of body = stmts_code 0 body (stmts_count body)

-- the statements that are left at a place of a body; none past its last instruction
unfoldable pub left : PlainStmts ℕ → ℕ → PlainStmts ℕ
left body at = get_or (stmts_lefts body no_stmts) at no_stmts
