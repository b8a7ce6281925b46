-- How bytes are cut into characters, one after another.
use Rattle.std.proofs.Common.{◌≡◌, ℕ, suc, ◌+◌, ◌-◌, ◌<◌, ◌≤◌, true, false, cond, List, [], ◌∷◌, length, get_or, drop, refl, ◌∙◌, arith}
use Rattle.std.proofs.lemmas.List.{at_drop_more, at_drop_all}
use Rattle.std.proofs.lemmas.Bool.Decides.{nat_tests}
use Rattle.cml_phrase.specs.Places.{begins_character}
use Rattle.cml_phrase.specs.Shown.{bytes_of_first, shown_bytes, is_control, is_wide_control}

stops : (b : ℕ) (xs : List ℕ) → begins_character b ≡ true → bytes_of_first 0 (b ∷ xs) ≡ 0
unfolding bytes_of_first
stops b xs h = rw h refl

begins : (n b : ℕ) (xs : List ℕ) → begins_character b ≡ true → 0 < n → bytes_of_first n (b ∷ xs) ≡ suc (bytes_of_first (n - 1) xs)
unfolding bytes_of_first
begins n b xs h m = rw h (grind (arith, nat_tests))

goes_on : (n b : ℕ) (xs : List ℕ) → begins_character b ≡ false → bytes_of_first n (b ∷ xs) ≡ suc (bytes_of_first n xs)
unfolding bytes_of_first
goes_on n b xs h = rw h refl

-- at an index
pub stops_at : (xs : List ℕ) (i : ℕ) → i < length xs → begins_character (get_or xs i 0) ≡ true → bytes_of_first 0 (drop i xs) ≡ 0
stops_at xs i h e = at_drop_more (bytes_of_first 0) xs i 0 h ∙ stops _ _ e

pub begins_at : (n : ℕ) (xs : List ℕ) (i : ℕ) → i < length xs → begins_character (get_or xs i 0) ≡ true → 0 < n → bytes_of_first n (drop i xs) ≡ suc (bytes_of_first (n - 1) (drop (i + 1) xs))
begins_at n xs i h e m = at_drop_more (bytes_of_first n) xs i 0 h ∙ begins n _ _ e m

pub goes_on_at : (n : ℕ) (xs : List ℕ) (i : ℕ) → i < length xs → begins_character (get_or xs i 0) ≡ false → bytes_of_first n (drop i xs) ≡ suc (bytes_of_first n (drop (i + 1) xs))
goes_on_at n xs i h e = at_drop_more (bytes_of_first n) xs i 0 h ∙ goes_on n _ _ e

none : (n : ℕ) → bytes_of_first n [] ≡ 0
unfolding bytes_of_first
none n = refl

pub none_at : (n : ℕ) (xs : List ℕ) (i : ℕ) → length xs ≤ i → bytes_of_first n (drop i xs) ≡ 0
none_at n xs i h = at_drop_all (bytes_of_first n) xs i h ∙ none n

-- what is shown of the first bytes
pub shown_wide : (bytes : List ℕ) → 1 < length bytes → is_wide_control (get_or bytes 0 0) (get_or bytes 1 0) ≡ true → shown_bytes bytes ≡ 63 ∷ shown_bytes (drop 2 bytes)
unfolding shown_bytes
shown_wide [] h e = absurd (omega arith)
shown_wide (b ∷ []) h e = absurd (omega arith)
shown_wide (b ∷ c ∷ bytes) h e = rw e refl

pub shown_one : (bytes : List ℕ) → 0 < length bytes → (1 < length bytes → is_wide_control (get_or bytes 0 0) (get_or bytes 1 0) ≡ false)
    → shown_bytes bytes ≡ cond (is_control (get_or bytes 0 0)) 63 (get_or bytes 0 0) ∷ shown_bytes (drop 1 bytes)
unfolding shown_bytes
shown_one [] h e = absurd (omega arith)
shown_one (b ∷ []) h e = refl
shown_one (b ∷ c ∷ bytes) h e = rw (e (omega arith)) refl

pub shown_none : (bytes : List ℕ) → length bytes ≡ 0 → shown_bytes bytes ≡ []
unfolding shown_bytes
shown_none [] h = refl
shown_none (b ∷ bytes) h = absurd (omega arith)
