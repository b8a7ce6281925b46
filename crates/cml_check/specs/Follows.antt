-- What an instruction says of the statements that are left at its place and at those after it. Here `left` are the statements left at each
-- place, and `here` those at its own.
use Rattle.std.specs.Prelude.{◌≡◌, ℕ, List, Bool, ◌&&◌, nat_lt}
use Rattle.cml_check.specs.Syntax.{PlainExpr, let_be, set_to, just_do, if_so, while_so, return_with, PlainStmts, stmts_and}
use Rattle.cml_check.specs.InOrder.{expr_fits, effect_fits, source_fits}
use Rattle.cml_check.specs.Layout.{and_then, PlainInstr, let_then, set_then, do_then, if_then, while_then, return_then}

-- A choice of a and b, and then k: where its test holds a is left and then k, else b and then k.
pub record FollowsIf (left : ℕ → PlainStmts ℕ) (e : PlainExpr ℕ) (holds fails : ℕ) (here : PlainStmts ℕ) : Type 0 where
  pub a : PlainStmts ℕ
  pub b : PlainStmts ℕ
  pub k : PlainStmts ℕ
  pub is : here ≡ stmts_and (if_so e a b) k
  pub on_holds : left holds ≡ and_then a k
  pub on_fails : left fails ≡ and_then b k

-- A loop of a: where its test holds a is left, and then all that is left here.
pub record FollowsWhile (left : ℕ → PlainStmts ℕ) (e : PlainExpr ℕ) (body next : ℕ) (here : PlainStmts ℕ) : Type 0 where
  pub a : PlainStmts ℕ
  pub is : here ≡ stmts_and (while_so e a) (left next)
  pub on_body : left body ≡ and_then a here

abbrev pub Follows : (ℕ → PlainStmts ℕ) → PlainInstr → PlainStmts ℕ → Type 0
Follows left (let_then x r next) here = here ≡ stmts_and (let_be x r) (left next)
Follows left (set_then x e next) here = here ≡ stmts_and (set_to x e) (left next)
Follows left (do_then e next) here = here ≡ stmts_and (just_do e) (left next)
Follows left (if_then e holds fails) here = FollowsIf left e holds fails here
Follows left (while_then e body next) here = FollowsWhile left e body next here
Follows left (return_then e) here = (k : PlainStmts ℕ) × (here ≡ stmts_and (return_with e) k)

-- Among functions of these arities, in a function of that many slots: each slot that an instruction names is there, and so is each function,
-- with as many values as it takes.
abbrev pub instr_fits : List ℕ → ℕ → PlainInstr → Bool
instr_fits arities slots (let_then x r next) = nat_lt x slots && source_fits arities slots r
instr_fits arities slots (set_then x e next) = nat_lt x slots && expr_fits arities slots e
instr_fits arities slots (do_then e next) = effect_fits arities slots e
instr_fits arities slots (if_then e holds fails) = expr_fits arities slots e
instr_fits arities slots (while_then e body next) = expr_fits arities slots e
instr_fits arities slots (return_then e) = expr_fits arities slots e
