-- How the characters of a text stand in a literal.
use Rattle.std.proofs.Common.{◌≡◌, ◌≢◌, ℕ, ◌+◌, ◌<◌, ◌≤◌, ◌/◌, Bool, true, false, cond, List, [], ◌∷◌, ◌++◌, length, get_or, drop, refl, ap, sym, ◌∙◌, arith, add-one, suc}
use Rattle.std.proofs.lemmas.Bool.Decides.{nat_tests}
use Rattle.std.proofs.lemmas.Str.{chars-encodes}
use Rattle.std.specs.Str.{IsUtf8, chars}
use Rattle.std.proofs.lemmas.List.{drop_all}
use Rattle.std.proofs.lemmas.Grind.{flat_map-append}
use Rattle.std.proofs.Math.Seq.{drop-cons}
use lib.Utf8.{encode, encodes, next}
use lib.Dec.{ltb}
use Rattle.cml_value.specs.Show.{escaped_byte, escaped_text}

-- any other byte is written as it is
pub escaped_byte-other : (b : ℕ) → b ≢ 34 → b ≢ 92 → b ≢ 10 → escaped_byte b ≡ b ∷ []
escaped_byte-other b p q r = grind (arith, nat_tests)

big : (b : ℕ) → 128 ≤ b → escaped_byte b ≡ b ∷ []
big b h = grind (arith, nat_tests)

one : (b : ℕ) (bs : List ℕ) → escaped_byte b ≡ b ∷ [] → escaped_text bs ≡ bs → escaped_text (b ∷ bs) ≡ b ∷ bs
one b bs p q = rw (p, q) refl

-- a character other than the three is written as it is
pub escaped-encode : (c : ℕ) → c ≢ 34 → c ≢ 92 → c ≢ 10 → escaped_text (encode c) ≡ encode c
unfolding encode
escaped-encode c p q r = at (ltb c 128) (ltb c 2048) (ltb c 65536)
  where
    at : (x y z : Bool) → escaped_text (cond x (c ∷ [])
        (cond y ((192 + c / 64) ∷ next c ∷ [])
        (cond z ((224 + c / 4096) ∷ next (c / 64) ∷ next c ∷ [])
        ((240 + c / 262144) ∷ next (c / 4096) ∷ next (c / 64) ∷ next c ∷ []))))
        ≡ cond x (c ∷ []) (cond y ((192 + c / 64) ∷ next c ∷ []) (cond z ((224 + c / 4096) ∷ next (c / 64) ∷ next c ∷ []) ((240 + c / 262144) ∷ next (c / 4096) ∷ next (c / 64) ∷ next c ∷ [])))
    at true y z = one c [] (escaped_byte-other c p q r) refl
    at false true z = one _ _ (big _ (omega arith)) (one _ _ (big _ (omega arith)) refl)
    at false false true = one _ _ (big _ (omega arith)) (one _ _ (big _ (omega arith)) (one _ _ (big _ (omega arith)) refl))
    at false false false = one _ _ (big _ (omega arith)) (one _ _ (big _ (omega arith)) (one _ _ (big _ (omega arith)) (one _ _ (big _ (omega arith)) refl)))

-- one more character of a text
pub escaped-drop : (cs : List ℕ) (n c : ℕ) → (n < length cs) × (c ≡ get_or cs n c) → escaped_text (encodes (drop n cs)) ≡ escaped_text (encode c) ++ escaped_text (encodes (drop (n + 1) cs))
escaped-drop cs n c h =
    let e : drop n cs ≡ c ∷ drop (n + 1) cs = rw add-one (drop-cons cs n c h.0 ∙ ap (λ x. x ∷ drop (suc n) cs) (sym h.1)) in
    ap (λ ds. escaped_text (encodes ds)) e ∙ flat_map-append escaped_byte (encode c) (encodes (drop (n + 1) cs))

-- nothing is left after the last one
pub escaped-drop_all : (cs : List ℕ) (n : ℕ) → length cs ≤ n → escaped_text (encodes (drop n cs)) ≡ []
escaped-drop_all cs n h = rw (drop_all n cs h) refl

-- the characters of a text, spelled again
pub encodes-chars : (bs : List ℕ) → IsUtf8 bs → encodes (chars bs) ≡ bs
encodes-chars bs (cs, (all, spelled)) = rw (← spelled) (ap encodes (chars-encodes cs all))
