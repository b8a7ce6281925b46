-- Two lists that are cut after as many parts.
use Rattle.std.proofs.Common.{◌≡◌, ◌↔◌, ℕ, zero, suc, ◌≤◌, List, [], ◌∷◌, ◌++◌, take, drop, length, append_assoc, refl, ap, sym, ◌∙◌, arith}
use Rattle.std.proofs.lemmas.List.{take-append-drop}

-- their first parts are the same where the lists are, and so is what stands after
cut : {A : Type 0} (n : ℕ) (xs ys ps qs : List A) → n ≤ length xs → n ≤ length ys → xs ++ ps ≡ ys ++ qs →
    (take n xs ≡ take n ys) × (drop n xs ++ ps ≡ drop n ys ++ qs)
cut zero xs ys ps qs a b h = (refl, h)
cut (suc n) [] ys ps qs a b h = absurd (omega arith)
cut (suc n) (x ∷ xs) [] ps qs a b h = absurd (omega arith)
cut (suc n) (x ∷ xs) (y ∷ ys) ps qs a b h =
    let first : x ≡ y = cc in
    let behind : xs ++ ps ≡ ys ++ qs = cc in
    let rest = cut n xs ys ps qs (omega arith) (omega arith) behind in
    let front = rest.0 in
    (cc, rest.1)

parts : {A : Type 0} (n : ℕ) (xs ps : List A) → xs ++ ps ≡ take n xs ++ (drop n xs ++ ps)
parts n xs ps = ap (λ l. l ++ ps) (sym (take-append-drop n xs)) ∙ append_assoc (take n xs) (drop n xs) ps

pub same_cut : {A : Type 0} (n : ℕ) (xs ys ps qs fx bx fy by : List A) → n ≤ length xs → n ≤ length ys →
    fx ≡ take n xs → bx ≡ drop n xs → fy ≡ take n ys → by ≡ drop n ys →
    (xs ++ ps ≡ ys ++ qs) ↔ ((fx ≡ fy) × (bx ++ ps ≡ by ++ qs))
same_cut n xs ys ps qs fx bx fy by a b p q r s =
    rw (p, q, r, s) (
      (λ h. cut n xs ys ps qs a b h),
      (λ h. parts n xs ps ∙ ap (λ l. l ++ (drop n xs ++ ps)) h.0 ∙ ap (λ l. take n ys ++ l) h.1 ∙ sym (parts n ys qs)),
    )
