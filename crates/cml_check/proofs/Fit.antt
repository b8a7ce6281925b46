-- The slots and functions that the code of statements names are those that they name.
use Rattle.std.proofs.Common.{◌≡◌, ℕ, ◌+◌, ◌<◌, true, ◌&&◌, List, [], ◌∷◌, ◌++◌, get_or, arith}
use Rattle.std.specs.List.{All}
use Rattle.std.proofs.lemmas.List.Elements.{All-append, All-cons, All-get_or}
use Rattle.std.proofs.lemmas.Bool.{and_parts}
use Rattle.cml_check.specs.Syntax.{PlainStmt, let_be, set_to, just_do, if_so, while_so, return_with, PlainStmts, no_stmts, stmts_and}
use Rattle.cml_check.specs.Sizes.{stmt_count, stmts_count}
use Rattle.cml_check.specs.InOrder.{expr_fits, stmt_fits, stmts_fit}
use Rattle.cml_check.specs.Layout.{PlainInstr, let_then, set_then, do_then, if_then, while_then, return_then, entry, stmt_code, stmts_code, code_of}
use Rattle.cml_check.specs.Follows.{instr_fits}
use Rattle.cml_check.proofs.Walk.{length_code}

module _ (fs : List ℕ) (n : ℕ) where
  abbrev Fit : PlainInstr → Type 0
  Fit i = instr_fits fs n i ≡ true

  none : All Fit []
  none = λ k d lt. absurd (omega arith)

  one : (i : PlainInstr) → Fit i → All Fit (i ∷ [])
  one i h = All-cons Fit i [] h none

  mutual
    fit_stmt : (base : ℕ) (s : PlainStmt ℕ) (next : ℕ) → stmt_fits fs n s ≡ true → All Fit (stmt_code base s next)
    fit_stmt base (let_be x r) next h = one (let_then x r next) h
    fit_stmt base (set_to x e) next h = one (set_then x e next) h
    fit_stmt base (just_do e) next h = one (do_then e next) h
    fit_stmt base (return_with e) next h = one (return_then e) h
    fit_stmt base (if_so e a b) next h =
        let q = and_parts (expr_fits fs n e && stmts_fit fs n a) (stmts_fit fs n b) h in
        let p = and_parts (expr_fits fs n e) (stmts_fit fs n a) q.0 in
        let mid = base + 1 + stmts_count a in
        let ca = stmts_code (base + 1) a next in
        let cb = stmts_code mid b next in
        All-cons Fit (if_then e (entry (base + 1) a next) (entry mid b next)) (ca ++ cb) p.0 (All-append Fit ca cb (fit_stmts (base + 1) a next p.1) (fit_stmts mid b next q.1))
    fit_stmt base (while_so e a) next h =
        let p = and_parts (expr_fits fs n e) (stmts_fit fs n a) h in
        All-cons Fit (while_then e (entry (base + 1) a base) next) (stmts_code (base + 1) a base) p.0 (fit_stmts (base + 1) a base p.1)

    fit_stmts : (base : ℕ) (ss : PlainStmts ℕ) (next : ℕ) → stmts_fit fs n ss ≡ true → All Fit (stmts_code base ss next)
    fit_stmts base no_stmts next h = none
    fit_stmts base (stmts_and s ss) next h =
        let p = and_parts (stmt_fits fs n s) (stmts_fit fs n ss) h in
        let mid = base + stmt_count s in
        All-append Fit (stmt_code base s (entry mid ss next)) (stmts_code mid ss next) (fit_stmt base s (entry mid ss next) p.0) (fit_stmts mid ss next p.1)

pub fit_at : (fs : List ℕ) (n : ℕ) (b : PlainStmts ℕ) (i : ℕ) (d : PlainInstr) → stmts_fit fs n b ≡ true → i < stmts_count b → instr_fits fs n (get_or (code_of b) i d) ≡ true
fit_at fs n b i d h lt =
    let e = length_code b in
    All-get_or (Fit fs n) (code_of b) i d (omega arith) (fit_stmts fs n 0 b (stmts_count b) h)
