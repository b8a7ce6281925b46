-- How a text is gone through for the next function.
use Rattle.std.proofs.Common.{◌≡◌, ℕ, ◌+◌, ◌<◌, ◌≤◌, true, false, Some, None, List, [], ◌∷◌, length, get_or, drop, refl, ap, ◌∙◌, arith}
use Rattle.std.proofs.lemmas.List.{at_drop_more, at_drop_all}
use Rattle.cml_explain.specs.Texts.{is_before_function, next_function}

none : (at : ℕ) → next_function at [] ≡ None
unfolding next_function
none at = refl

found : (at b : ℕ) (xs : List ℕ) → is_before_function b xs ≡ true → next_function at (b ∷ xs) ≡ Some (at + 1)
unfolding next_function
found at b xs h = rw h refl

passed : (at b : ℕ) (xs : List ℕ) → is_before_function b xs ≡ false → next_function at (b ∷ xs) ≡ next_function (at + 1) xs
unfolding next_function
passed at b xs h = rw h refl

-- at an index
pub found_at : (at : ℕ) (xs : List ℕ) (i : ℕ) → i < length xs → is_before_function (get_or xs i 0) (drop (i + 1) xs) ≡ true → next_function (at + i) (drop i xs) ≡ Some (at + i + 1)
found_at at xs i h e = at_drop_more (next_function (at + i)) xs i 0 h ∙ found (at + i) _ _ e

pub passed_at : (at : ℕ) (xs : List ℕ) (i : ℕ) → i < length xs → is_before_function (get_or xs i 0) (drop (i + 1) xs)
    ≡ false → next_function (at + i) (drop i xs) ≡ next_function (at + (i + 1)) (drop (i + 1) xs)
passed_at at xs i h e =
    let same : at + i + 1 ≡ at + (i + 1) = omega arith in
    at_drop_more (next_function (at + i)) xs i 0 h ∙ (passed (at + i) _ _ e ∙ ap (λ w. next_function w (drop (i + 1) xs)) same)

pub none_at : (at : ℕ) (xs : List ℕ) (i : ℕ) → length xs ≤ i → next_function at (drop i xs) ≡ None
none_at at xs i h = at_drop_all (next_function at) xs i h ∙ none at
