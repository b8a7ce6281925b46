-- How many parts a list of them has.
use Rattle.std.proofs.Common.{◌≡◌, ℕ, suc, List, [], ◌∷◌, length, refl, ap, map, Bool, ◌&&◌, ◌↔◌, String, Global}
use Rattle.std.specs.Prelude.{IsTrue}
use Rattle.std.specs.String.{string_bytes, string_eq}
use Rattle.std.specs.Str.{bytes_eq}
use Rattle.std.specs.Cmp.Lexicographic.{pointwise, pointwise_decides}
use Rattle.std.proofs.lemmas.Slice.Eq.{bytes_eq-Decides}
use Rattle.cml_check.specs.Syntax.{PlainExpr, PlainExprs, no_exprs, exprs_and, exprs, PlainStmt, PlainStmts, no_stmts, stmts_and, stmts}

abbrev pub many_exprs : PlainExprs ℕ → ℕ
many_exprs no_exprs = 0
many_exprs (exprs_and e es) = suc (many_exprs es)

pub length_exprs : (es : List (PlainExpr ℕ)) → length es ≡ many_exprs (exprs es)
length_exprs [] = refl
length_exprs (e ∷ es) = ap suc (length_exprs es)

abbrev pub many_stmts : PlainStmts ℕ → ℕ
many_stmts no_stmts = 0
many_stmts (stmts_and s ss) = suc (many_stmts ss)

pub length_stmts : (ss : List (PlainStmt ℕ)) → length ss ≡ many_stmts (stmts ss)
length_stmts [] = refl
length_stmts (s ∷ ss) = ap suc (length_stmts ss)

as_bytes : (xs ys : List (String Global)) → pointwise string_eq xs ys ≡ pointwise bytes_eq (map string_bytes xs) (map string_bytes ys)
as_bytes [] [] = refl
as_bytes [] (y ∷ ys) = refl
as_bytes (x ∷ xs) [] = refl
as_bytes (x ∷ xs) (y ∷ ys) = ap (λ b. bytes_eq (string_bytes x) (string_bytes y) && b) (as_bytes xs ys)

-- texts are equal one by one where their bytes are
pub same_texts : (xs ys : List (String Global)) (r : Bool) → r ≡ pointwise string_eq xs ys → IsTrue r ↔ (map string_bytes xs ≡ map string_bytes ys)
same_texts xs ys r is =
    let decides = pointwise_decides bytes_eq-Decides (map string_bytes xs) (map string_bytes ys) in
    rw (is, as_bytes xs ys) ((λ h. decides.0 h), (λ h. decides.1 h))
