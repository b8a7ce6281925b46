-- How the code of statements is put together.
use Rattle.std.proofs.Common.{◌≡◌, ℕ, zero, suc, ◌+◌, ◌<◌, ◌≤◌, List, [], ◌∷◌, ◌++◌, length, get_or, drop, map, refl, sym, ap, ◌∙◌, arith, append_assoc, append-nil, length-append}
use Rattle.std.proofs.lemmas.List.{length-map, map_push}
use Rattle.std.proofs.Math.ListN.{drop_of_length-le}
use Rattle.std.proofs.Math.Seq.{drop-cons}
use Rattle.cml_check.specs.Syntax.{PlainExpr, PlainStmt, let_be, set_to, just_do, if_so, while_so, return_with, PlainStmts, no_stmts, stmts_and, stmts}
use Rattle.cml_check.specs.Sizes.{stmt_count, stmts_count}
use Rattle.cml_check.specs.Layout.{PlainInstr, if_then, while_then, entry, stmt_code, stmts_code}
use Rattle.cml_check.specs.InstrViews.{plain_instr}
use Rattle.cml_check.specs.declared.instr.Instr.{Instr}

-- as many instructions as statements
mutual
  pub length_stmt : (base : ℕ) (s : PlainStmt ℕ) (next : ℕ) → length (stmt_code base s next) ≡ stmt_count s
  length_stmt base (let_be x r) next = refl
  length_stmt base (set_to x e) next = refl
  length_stmt base (just_do e) next = refl
  length_stmt base (if_so e a b) next =
      let l = length-append (stmts_code (base + 1) a next) (stmts_code (base + 1 + stmts_count a) b next) in
      let p = length_stmts (base + 1) a next in
      let q = length_stmts (base + 1 + stmts_count a) b next in
      omega arith
  length_stmt base (while_so e a) next = let p = length_stmts (base + 1) a base in omega arith
  length_stmt base (return_with e) next = refl

  pub length_stmts : (base : ℕ) (ss : PlainStmts ℕ) (next : ℕ) → length (stmts_code base ss next) ≡ stmts_count ss
  length_stmts base no_stmts next = refl
  length_stmts base (stmts_and s ss) next =
      let l = length-append (stmt_code base s (entry (base + stmt_count s) ss next)) (stmts_code (base + stmt_count s) ss next) in
      let p = length_stmt base s (entry (base + stmt_count s) ss next) in
      let q = length_stmts (base + stmt_count s) ss next in
      omega arith

-- one statement more is counted
pub counted_next : (xs : List (PlainStmt ℕ)) (i n all : ℕ) (s : PlainStmt ℕ) → i < length xs → s ≡ get_or xs i s → n + stmts_count (stmts (drop i xs)) ≡ all →
    n + stmt_count s + stmts_count (stmts (drop (i + 1) xs)) ≡ all
counted_next xs i n all s lt is h =
    let up : suc i ≡ i + 1 = omega arith in
    let e : drop i xs ≡ s ∷ drop (i + 1) xs = drop-cons xs i s lt ∙ ap (λ t. t ∷ drop (suc i) xs) (sym is) ∙ ap (λ k. s ∷ drop k xs) up in
    let q = ap (λ ys. stmts_count (stmts ys)) e in
    omega arith

pub counted_all : (xs : List (PlainStmt ℕ)) (i n all : ℕ) → length xs ≤ i → n + stmts_count (stmts (drop i xs)) ≡ all → n ≡ all
counted_all xs i n all le h =
    let q = ap (λ ys. stmts_count (stmts ys)) (drop_of_length-le xs le) in
    omega arith

pub laid_length : (old new : List Instr) (added : List PlainInstr) → map plain_instr new ≡ map plain_instr old ++ added → length new ≡ length old + length added
laid_length old new added e =
    let p = ap length e in
    let q = length-append (map plain_instr old) added in
    let r = length-map new plain_instr in
    let s = length-map old plain_instr in
    omega arith

-- where a statement is left, they begin where they are laid, else at the place after them
pub entry_some : (base at next : ℕ) (xs : List (PlainStmt ℕ)) → at < length xs → base ≡ entry base (stmts (drop at xs)) next
entry_some base at next [] h = absurd (omega arith)
entry_some base zero next (x ∷ xs) h = refl
entry_some base (suc at) next (x ∷ xs) h = entry_some base at next xs (omega arith)

pub entry_none : (base at next : ℕ) (xs : List (PlainStmt ℕ)) → length xs ≤ at → next ≡ entry base (stmts (drop at xs)) next
entry_none base at next xs h = sym (ap (λ ys. entry base (stmts ys) next) (drop_of_length-le xs h))

-- a statement is laid, and those after it are left
pub laid_next : (whole : List PlainInstr) (old new : List Instr) (xs : List (PlainStmt ℕ)) (s : PlainStmt ℕ) (at next after : ℕ) →
    at < length xs → s ≡ get_or xs at s → after ≡ entry (length old + stmt_count s) (stmts (drop (at + 1) xs)) next →
    map plain_instr new ≡ map plain_instr old ++ stmt_code (length old) s after →
    map plain_instr old ++ stmts_code (length old) (stmts (drop at xs)) next ≡ whole →
    map plain_instr new ++ stmts_code (length new) (stmts (drop (at + 1) xs)) next ≡ whole
laid_next whole old new xs s at next after lt is go laid all =
    let left = stmts (drop (at + 1) xs) in
    let e : drop at xs ≡ s ∷ drop (at + 1) xs =
    let up : suc at ≡ at + 1 = omega arith in
    drop-cons xs at s lt ∙ ap (λ h. h ∷ drop (suc at) xs) (sym is) ∙ ap (λ n. s ∷ drop n xs) up in
    let n : length new ≡ length old + stmt_count s = laid_length old new (stmt_code (length old) s after) laid ∙ ap (λ k. length old + k) (length_stmt (length old) s after) in
    ap (λ k. map plain_instr new ++ stmts_code k left next) n
    ∙ ap (λ l. l ++ stmts_code (length old + stmt_count s) left next) laid
    ∙ ap (λ g. (map plain_instr old ++ stmt_code (length old) s g) ++ stmts_code (length old + stmt_count s) left next) go
    ∙ append_assoc (map plain_instr old) (stmt_code (length old) s (entry (length old + stmt_count s) left next)) (stmts_code (length old + stmt_count s) left next)
    ∙ ap (λ ys. map plain_instr old ++ stmts_code (length old) (stmts ys) next) (sym e)
    ∙ all

-- no statement is left
pub laid_all : (whole : List PlainInstr) (code : List Instr) (xs : List (PlainStmt ℕ)) (at next : ℕ) → length xs ≤ at →
    map plain_instr code ++ stmts_code (length code) (stmts (drop at xs)) next ≡ whole → map plain_instr code ≡ whole
laid_all whole code xs at next le all =
    sym (append-nil (map plain_instr code)) ∙ ap (λ ys. map plain_instr code ++ stmts_code (length code) (stmts ys) next) (sym (drop_of_length-le xs le)) ∙ all

pub laid_one : (old new : List Instr) (i : Instr) → new ≡ old ++ i ∷ [] → map plain_instr new ≡ map plain_instr old ++ plain_instr i ∷ []
laid_one old new i e = ap (map plain_instr) e ∙ map_push plain_instr old i

-- what is laid for a choice: its test, and then one branch and the other
pub laid_if : (old c1 c2 c3 : List Instr) (e : PlainExpr ℕ) (a b : PlainStmts ℕ) (next : ℕ) →
    map plain_instr c1 ≡ map plain_instr old ++ if_then e (entry (length old + 1) a next) (entry (length old + 1 + stmts_count a) b next) ∷ [] →
    map plain_instr c2 ≡ map plain_instr c1 ++ stmts_code (length c1) a next →
    map plain_instr c3 ≡ map plain_instr c2 ++ stmts_code (length c2) b next →
    map plain_instr c3 ≡ map plain_instr old ++ stmt_code (length old) (if_so e a b) next
laid_if old c1 c2 c3 e a b next put first second =
    let O = map plain_instr old in
    let base = length old + 1 in
    let mid = base + stmts_count a in
    let i = if_then e (entry base a next) (entry mid b next) in
    let n : length c1 ≡ base = laid_length old c1 (i ∷ []) put in
    let k : length c2 ≡ mid = laid_length c1 c2 (stmts_code (length c1) a next) first ∙ ap (λ x. length c1 + x) (length_stmts (length c1) a next) ∙ ap (λ x. x + stmts_count a) n in
    let A = stmts_code base a next in
    let B = stmts_code mid b next in
    second
    ∙ ap (λ x. map plain_instr c2 ++ stmts_code x b next) k
    ∙ ap (λ l. l ++ B) first
    ∙ ap (λ x. (map plain_instr c1 ++ stmts_code x a next) ++ B) n
    ∙ ap (λ l. (l ++ A) ++ B) put
    ∙ ap (λ l. l ++ B) (append_assoc O (i ∷ []) A)
    ∙ append_assoc O (i ∷ A) B

-- what is laid for a loop: its test, and then its statements
pub laid_while : (old c1 c2 : List Instr) (e : PlainExpr ℕ) (a : PlainStmts ℕ) (next here : ℕ) → here ≡ length old →
    map plain_instr c1 ≡ map plain_instr old ++ while_then e (entry (length old + 1) a (length old)) next ∷ [] →
    map plain_instr c2 ≡ map plain_instr c1 ++ stmts_code (length c1) a here →
    map plain_instr c2 ≡ map plain_instr old ++ stmt_code (length old) (while_so e a) next
laid_while old c1 c2 e a next here at put first =
    let O = map plain_instr old in
    let base = length old + 1 in
    let i = while_then e (entry base a (length old)) next in
    let n : length c1 ≡ base = laid_length old c1 (i ∷ []) put in
    first
    ∙ ap (λ h. map plain_instr c1 ++ stmts_code (length c1) a h) at
    ∙ ap (λ x. map plain_instr c1 ++ stmts_code x a (length old)) n
    ∙ ap (λ l. l ++ stmts_code base a (length old)) put
    ∙ append_assoc O (i ∷ []) (stmts_code base a (length old))
