-- What is left of two names behind the letters with which both begin.
use Rattle.std.proofs.Common.{◌≡◌, ◌≢◌, ℕ, ◌+◌, ◌<◌, ◌≤◌, List, [], ◌∷◌, length, get_or, drop, refl, sym, ap, ◌∙◌, arith, cond, nat_eq, true, false, add-one, drop-cons}
use Rattle.std.proofs.Math.ListN.{drop_of_length-le}
use Rattle.std.proofs.lemmas.Bool.Decides.{nat_tests}
use Rattle.cml_explain.specs.Names.{past_common}

same : (a b : ℕ) → a ≡ b → nat_eq a b ≡ true
same a b h = grind (arith, nat_tests)

other : (a b : ℕ) → a ≢ b → nat_eq a b ≡ false
other a b h = grind (arith, nat_tests)

next : (xs : List ℕ) (k : ℕ) → k < length xs → drop k xs ≡ get_or xs k 0 ∷ drop (k + 1) xs
next xs k lt = rw (add-one) (drop-cons xs k 0 lt)

both : (xs ys : List ℕ) (k : ℕ) → k < length xs → k < length ys →
    past_common (drop k xs) (drop k ys) ≡ cond (nat_eq (get_or xs k 0) (get_or ys k 0))
    (past_common (drop (k + 1) xs) (drop (k + 1) ys))
    (get_or xs k 0 ∷ drop (k + 1) xs, get_or ys k 0 ∷ drop (k + 1) ys)
both xs ys k p q = ap (λ zs. past_common zs (drop k ys)) (next xs k p) ∙ ap (past_common (get_or xs k 0 ∷ drop (k + 1) xs)) (next ys k q)

pub common_same : (xs ys : List ℕ) (k : ℕ) → k < length xs → k < length ys → get_or xs k 0 ≡ get_or ys k 0 →
    past_common (drop (k + 1) xs) (drop (k + 1) ys) ≡ past_common (drop k xs) (drop k ys)
common_same xs ys k p q h =
    sym (both xs ys k p q
    ∙ ap (λ b. cond b (past_common (drop (k + 1) xs) (drop (k + 1) ys)) (get_or xs k 0 ∷ drop (k + 1) xs, get_or ys k 0 ∷ drop (k + 1) ys)) (same (get_or xs k 0) (get_or ys k 0) h))

pub common_other : (xs ys : List ℕ) (k : ℕ) → k < length xs → k < length ys → get_or xs k 0 ≢ get_or ys k 0 →
    past_common (drop k xs) (drop k ys) ≡ (drop k xs, drop k ys)
common_other xs ys k p q h =
    both xs ys k p q
    ∙ ap (λ b. cond b (past_common (drop (k + 1) xs) (drop (k + 1) ys)) (get_or xs k 0 ∷ drop (k + 1) xs, get_or ys k 0 ∷ drop (k + 1) ys)) (other (get_or xs k 0) (get_or ys k 0) h)
    ∙ ap (λ zs. (zs, get_or ys k 0 ∷ drop (k + 1) ys)) (sym (next xs k p))
    ∙ ap (λ zs. (drop k xs, zs)) (sym (next ys k q))

with_none : (xs : List ℕ) → past_common xs [] ≡ (xs, [])
with_none [] = refl
with_none (x ∷ xs) = refl

pub common_short : (xs ys : List ℕ) (k : ℕ) → length ys ≤ k → past_common (drop k xs) (drop k ys) ≡ (drop k xs, drop k ys)
common_short xs ys k le =
    ap (past_common (drop k xs)) (drop_of_length-le ys le) ∙ with_none (drop k xs) ∙ ap (λ zs. (drop k xs, zs)) (sym (drop_of_length-le ys le))

pub common_end : (xs ys : List ℕ) (k : ℕ) → length xs ≤ k → past_common (drop k xs) (drop k ys) ≡ (drop k xs, drop k ys)
common_end xs ys k le =
    ap (λ zs. past_common zs (drop k ys)) (drop_of_length-le xs le) ∙ ap (λ zs. (zs, drop k ys)) (sym (drop_of_length-le xs le))
