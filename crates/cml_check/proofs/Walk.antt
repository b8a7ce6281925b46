-- The code of a body follows the statements left at its places.
use Rattle.std.proofs.Common.{◌≡◌, ℕ, ◌+◌, ◌<◌, ◌≤◌, List, [], ◌∷◌, ◌++◌, length, get_or, refl, sym, ap, ◌∙◌, subst, inl, inr, arith, append_assoc, length-append}
use Rattle.std.proofs.lemmas.Bool.{cases_lt}
use Rattle.std.proofs.Math.Seq.{get_or-append_seam}
use Rattle.std.proofs.lemmas.List.{get_or_past}
use Rattle.cml_check.specs.Syntax.{PlainStmt, let_be, set_to, just_do, if_so, while_so, return_with, PlainStmts, no_stmts, stmts_and}
use Rattle.cml_check.specs.Sizes.{stmt_count, stmts_count}
use Rattle.cml_check.specs.Layout.{and_then, PlainInstr, let_then, set_then, do_then, if_then, while_then, return_then, entry, stmt_code, stmts_code, stmt_lefts, stmts_lefts, code_of, left}
use Rattle.cml_check.specs.Follows.{Follows}
use Rattle.cml_check.proofs.Laid.{length_stmt, length_stmts}

-- how many places: as many as statements
mutual
  length_stmt_lefts : (s : PlainStmt ℕ) (k : PlainStmts ℕ) → length (stmt_lefts s k) ≡ stmt_count s
  length_stmt_lefts (let_be x r) k = refl
  length_stmt_lefts (set_to x e) k = refl
  length_stmt_lefts (just_do e) k = refl
  length_stmt_lefts (if_so e a b) k =
      let l = length-append (stmts_lefts a k) (stmts_lefts b k) in
      let p = length_stmts_lefts a k in
      let q = length_stmts_lefts b k in
      omega arith
  length_stmt_lefts (while_so e a) k = let p = length_stmts_lefts a (stmts_and (while_so e a) k) in omega arith
  length_stmt_lefts (return_with e) k = refl

  length_stmts_lefts : (ss : PlainStmts ℕ) (k : PlainStmts ℕ) → length (stmts_lefts ss k) ≡ stmts_count ss
  length_stmts_lefts no_stmts k = refl
  length_stmts_lefts (stmts_and s ss) k =
      let l = length-append (stmt_lefts s (and_then ss k)) (stmts_lefts ss k) in
      let p = length_stmt_lefts s (and_then ss k) in
      let q = length_stmts_lefts ss k in
      omega arith

-- x stands at i
record At {A : Type 0} (xs : List A) (i : ℕ) (x : A) : Type 0 where
  within : i < length xs
  is : (d : A) → get_or xs i d ≡ x

-- the ys stand from i on
abbrev HasAt : {A : Type 0} → List A → ℕ → List A → Type 0
HasAt xs i [] = Unit {0}
HasAt xs i (y ∷ ys) = At xs i y × HasAt xs (i + 1) ys

has_front : {A : Type 0} (xs : List A) (i : ℕ) (a b : List A) → HasAt xs i (a ++ b) → HasAt xs i a
has_front xs i [] b h = tt
has_front xs i (y ∷ a) b h = (h.0, has_front xs (i + 1) a b h.1)

has_back : {A : Type 0} (xs : List A) (i n : ℕ) (a b : List A) → n ≡ length a → HasAt xs i (a ++ b) → HasAt xs (i + n) b
has_back xs i n [] b e h = let e : i ≡ i + n = omega arith in subst (λ m. HasAt xs m b) e h
has_back xs i n (y ∷ a) b e h =
    let same : i + 1 + length a ≡ i + n = omega arith in
    subst (λ m. HasAt xs m b) same (has_back xs (i + 1) (length a) a b refl h.1)

has_all : {A : Type 0} (ys pre : List A) → HasAt (pre ++ ys) (length pre) ys
has_all [] pre = tt
has_all (y ∷ ys) pre =
    let here : At (pre ++ y ∷ ys) (length pre) y =
    record { within = omega (arith, length-append pre (y ∷ ys)); is = λ d. get_or-append_seam pre y ys d } in
    let n : length (pre ++ y ∷ []) ≡ length pre + 1 = omega (arith, length-append pre (y ∷ [])) in
    let rest = has_all ys (pre ++ y ∷ []) in
    let rest' = subst (λ l. HasAt l (length (pre ++ y ∷ [])) ys) (append_assoc pre (y ∷ []) ys) rest in
    (here, subst (λ m. HasAt (pre ++ y ∷ ys) m ys) n rest')

module _ (C : List PlainInstr) (R : List (PlainStmts ℕ)) where
  abbrev stands : ℕ → PlainStmts ℕ
  stands i = get_or R i no_stmts

  -- the instruction at i, whichever it is, follows the statements left
  record FollowsAt (i : ℕ) : Type 0 where
    by : (j : PlainInstr) → Follows stands (get_or C i j) (stands i)

  record Walked (base size entry : ℕ) (here : PlainStmts ℕ) : Type 0 where
    at : stands entry ≡ here
    all : (i : ℕ) → base ≤ i → i < base + size → FollowsAt i

  -- one instruction
  one : (i : ℕ) (j : PlainInstr) (r : PlainStmts ℕ) → At C i j → At R i r → Follows stands j r → FollowsAt i
  one i j r c h f =
      record {
        by = λ d. subst (λ q. Follows stands q (stands i)) (sym (c.is d)) (subst (λ q. Follows stands j q) (sym (h.is no_stmts)) f);
      }

  alone : (base : ℕ) (j : PlainInstr) (r : PlainStmts ℕ) → At C base j → At R base r → Follows stands j r → Walked base 1 base r
  alone base j r c h f =
      record {
        at = h.is no_stmts;
        all = λ i lo hi. let e : base ≡ i = omega arith in subst FollowsAt e (one base j r c h f);
      }

  mutual
    walk_stmt : (base : ℕ) (s : PlainStmt ℕ) (next : ℕ) (k : PlainStmts ℕ) → HasAt C base (stmt_code base s next)
        → HasAt R base (stmt_lefts s k) → stands next ≡ k → Walked base (stmt_count s) base (stmts_and s k)
    walk_stmt base (let_be x r) next k c h n = alone base (let_then x r next) (stmts_and (let_be x r) k) c.0 h.0 (ap (stmts_and (let_be x r)) (sym n))
    walk_stmt base (set_to x e) next k c h n = alone base (set_then x e next) (stmts_and (set_to x e) k) c.0 h.0 (ap (stmts_and (set_to x e)) (sym n))
    walk_stmt base (just_do e) next k c h n = alone base (do_then e next) (stmts_and (just_do e) k) c.0 h.0 (ap (stmts_and (just_do e)) (sym n))
    walk_stmt base (return_with e) next k c h n = alone base (return_then e) (stmts_and (return_with e) k) c.0 h.0 (k, refl)
    walk_stmt base (if_so e a b) next k c h n =
        let mid = base + 1 + stmts_count a in
        let own_code = if_then e (entry (base + 1) a next) (entry mid b next) in
        let here = stmts_and (if_so e a b) k in
        let ca = stmts_code (base + 1) a next in
        let cb = stmts_code mid b next in
        let go = walk_stmts (base + 1) a next k (has_front C (base + 1) ca cb c.1) (has_front R (base + 1) (stmts_lefts a k) (stmts_lefts b k) h.1) n in
        let c1 = has_back C (base + 1) (stmts_count a) ca cb (sym (length_stmts (base + 1) a next)) c.1 in
        let r1 = has_back R (base + 1) (stmts_count a) (stmts_lefts a k) (stmts_lefts b k) (sym (length_stmts_lefts a k)) h.1 in
        let stay = walk_stmts mid b next k c1 r1 n in
        let f : Follows stands own_code here =
        record {
          a = a;
          b = b;
          k = k;
          is = refl;
          on_holds = go.at;
          on_fails = stay.at;
        } in
        let own = alone base own_code here c.0 h.0 f in
        record {
          at = own.at;
          all = λ i lo hi.
              elim (cases_lt i (base + 1)) [
                | inl p ↦ own.all i lo p
                | inr p ↦
                    elim (cases_lt i mid) [
                      | inl q ↦ go.all i p q
                      | inr q ↦ stay.all i q (omega arith)
                    ]
              ];
        }
    walk_stmt base (while_so e a) next k c h n =
        let here = stmts_and (while_so e a) k in
        let own_code = while_then e (entry (base + 1) a base) next in
        let go = walk_stmts (base + 1) a base here c.1 h.1 (h.0.is no_stmts) in
        let f : Follows stands own_code here =
        record {
          a = a;
          is = ap (stmts_and (while_so e a)) (sym n);
          on_body = go.at;
        } in
        let own = alone base own_code here c.0 h.0 f in
        record {
          at = own.at;
          all = λ i lo hi.
              elim (cases_lt i (base + 1)) [
                | inl p ↦ own.all i lo p
                | inr p ↦ go.all i p (omega arith)
              ];
        }

    walk_stmts : (base : ℕ) (ss : PlainStmts ℕ) (next : ℕ) (k : PlainStmts ℕ) → HasAt C base (stmts_code base ss next)
        → HasAt R base (stmts_lefts ss k) → stands next ≡ k
        → Walked base (stmts_count ss) (entry base ss next) (and_then ss k)
    walk_stmts base no_stmts next k c h n = record { at = n; all = λ i lo hi. absurd (omega arith) }
    walk_stmts base (stmts_and s ss) next k c h n =
        let mid = base + stmt_count s in
        let after_it = entry mid ss next in
        let cs = stmt_code base s after_it in
        let rs = stmt_lefts s (and_then ss k) in
        let c1 = stmts_code mid ss next in
        let r1 = stmts_lefts ss k in
        let after = walk_stmts mid ss next k
        (has_back C base (stmt_count s) cs c1 (sym (length_stmt base s after_it)) c)
        (has_back R base (stmt_count s) rs r1 (sym (length_stmt_lefts s (and_then ss k))) h)
        n in
        let own = walk_stmt base s after_it (and_then ss k) (has_front C base cs c1 c) (has_front R base rs r1 h) after.at in
        record {
          at = own.at;
          all = λ i lo hi.
              elim (cases_lt i mid) [
                | inl p ↦ own.all i lo p
                | inr p ↦ after.all i p (omega arith)
              ];
        }

and_then_none : (ss : PlainStmts ℕ) → and_then ss no_stmts ≡ ss
and_then_none no_stmts = refl
and_then_none (stmts_and s ss) = ap (stmts_and s) (and_then_none ss)

pub length_code : (b : PlainStmts ℕ) → length (code_of b) ≡ stmts_count b
length_code b = length_stmts 0 b (stmts_count b)

walked : (b : PlainStmts ℕ) → Walked (code_of b) (stmts_lefts b no_stmts) 0 (stmts_count b) (entry 0 b (stmts_count b)) (and_then b no_stmts)
walked b =
    walk_stmts (code_of b) (stmts_lefts b no_stmts) 0 b (stmts_count b) no_stmts
    (has_all (code_of b) [])
    (has_all (stmts_lefts b no_stmts) [])
    (get_or_past (stmts_lefts b no_stmts) (stmts_count b) no_stmts (omega (arith, length_stmts_lefts b no_stmts)))

pub left_past : (b : PlainStmts ℕ) (i : ℕ) → stmts_count b ≤ i → left b i ≡ no_stmts
unfolding left
left_past b i h = let e = length_stmts_lefts b no_stmts in get_or_past (stmts_lefts b no_stmts) i no_stmts (omega arith)

-- all statements are left at the first place
pub left_start : (b : PlainStmts ℕ) → left b 0 ≡ b
unfolding left
left_start no_stmts = refl
left_start (stmts_and s ss) = let w = walked (stmts_and s ss) in w.at ∙ and_then_none (stmts_and s ss)

pub follows : (b : PlainStmts ℕ) (i : ℕ) (j : PlainInstr) → i < stmts_count b → Follows (left b) (get_or (code_of b) i j) (left b i)
unfolding left
follows b i j lt = let w = walked b in (w.all i (omega arith) (omega arith)).by j
