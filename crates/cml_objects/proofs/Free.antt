-- The offers of a lane stand after free places.
use Rattle.std.proofs.Common.{◌≡◌, ◌≤◌, ◌+◌, ℕ, List, ◌++◌, take, drop, length}
use Rattle.std.proofs.Common.{ap, sym, ◌∙◌, arith}
use Rattle.std.proofs.Math.Seq.{take-length, drop-length}
use Rattle.std.proofs.lemmas.List.{append-nil, length-take-le, drop-append-le, drop-drop, drop-take}

behind : {X : Type 0} (xs ys : List X) (free at : ℕ) → free + at ≤ length xs → drop free (take (free + at) xs ++ ys) ≡ take at (drop free xs) ++ ys
behind xs ys free at within =
    let long : length (take (free + at) xs) ≡ free + at = length-take-le (free + at) xs within in
    drop-append-le free (take (free + at) xs) ys (omega (arith, long))
    ∙ ap (λ zs. zs ++ ys) (drop-take free at xs)

-- what is put in at a place
pub put_in : {X : Type 0} (xs ps rs : List X) (free at : ℕ) → drop free xs ≡ ps → free + at ≤ length xs
    → drop free (take (free + at) xs ++ (rs ++ drop (free + at) xs)) ≡ take at ps ++ (rs ++ drop at ps)
put_in xs ps rs free at same within =
    behind xs (rs ++ drop (free + at) xs) free at within
    ∙ ap (λ zs. take at (drop free xs) ++ (rs ++ zs)) (sym (drop-drop at free xs))
    ∙ ap (λ qs. take at qs ++ (rs ++ drop at qs)) same

-- what is taken out at a place
pub taken_out : {X : Type 0} (xs ps : List X) (free at count : ℕ) → drop free xs ≡ ps → free + at ≤ length xs
    → drop free (take (free + at) xs ++ drop (free + at + count) xs) ≡ take at ps ++ drop (at + count) ps
taken_out xs ps free at count same within =
    let place : free + at + count ≡ free + (at + count) = omega arith in
    behind xs (drop (free + at + count) xs) free at within
    ∙ ap (λ k. take at (drop free xs) ++ drop k xs) place
    ∙ ap (λ zs. take at (drop free xs) ++ zs) (sym (drop-drop (at + count) free xs))
    ∙ ap (λ qs. take at qs ++ drop (at + count) qs) same

-- what goes from the front
pub let_go : {X : Type 0} (xs ps : List X) (free count : ℕ) → drop free xs ≡ ps → drop (free + count) xs ≡ drop count ps
let_go xs ps free count same = sym (drop-drop count free xs) ∙ ap (drop count) same

-- what is put in behind all
pub put_last : {X : Type 0} (xs ps rs : List X) (free at : ℕ) → drop free xs ≡ ps → free ≤ length xs → at ≡ length ps
    → drop free (xs ++ rs) ≡ take at ps ++ (rs ++ drop at ps)
put_last xs ps rs free at same within last =
    drop-append-le free xs rs within
    ∙ ap (λ zs. zs ++ rs) same
    ∙ sym (ap (λ k. take k ps ++ (rs ++ drop k ps)) last
    ∙ ap (λ zs. zs ++ (rs ++ drop (length ps) ps)) (take-length ps)
    ∙ ap (λ zs. ps ++ (rs ++ zs)) (drop-length ps)
    ∙ ap (λ zs. ps ++ zs) (append-nil rs))

-- what goes from the end
pub cut_off : {X : Type 0} (xs ps : List X) (free at count : ℕ) → drop free xs ≡ ps → at + count ≡ length ps
    → drop free (take (free + at) xs) ≡ take at ps ++ drop (at + count) ps
cut_off xs ps free at count same last =
    drop-take free at xs ∙ ap (take at) same
    ∙ sym (ap (λ k. take at ps ++ drop k ps) last
    ∙ ap (λ zs. take at ps ++ zs) (drop-length ps)
    ∙ append-nil (take at ps))
