-- Where a text may be cut, what digits are worth, and how one lexeme follows another.
use Rattle.std.proofs.Common.{◌≡◌, ◌≢◌, ℕ, ◌+◌, ◌<◌, Bool, true, false, cond, ◌&&◌, eqb, List, [], ◌∷◌, ◌++◌}
use Rattle.std.proofs.Common.{length, get_or, drop, refl, ap, sym, ◌∙◌, subst, arith, Some, None, Result, Ok, Err}
use Rattle.std.proofs.Common.{ℤ, w64, rules, ◌⊎◌, inl, inr}
use Rattle.std.proofs.lemmas.Bool.{false≢true}
use Rattle.std.specs.Result.{OkIff, result_ok}
use Rattle.std.specs.Char.{is_ascii_digit, len_utf8, encode_utf8}
use Rattle.std.specs.List.{prefix_len, list_all}
use Rattle.std.specs.Str.{IsCharBoundary, IsUtf8, chars}
use Rattle.std.specs.Str.Parse.{ParsesSigned, digits_value}
use Rattle.std.proofs.lemmas.Bool.Decides.{nat_tests}
use Rattle.std.proofs.lemmas.List.Sums.{prefix_len-le-length, prefix_len_stops}
use Rattle.std.proofs.lemmas.Str.{IsCharBoundary-past_char, drop_past_char, chars_past_char}
use Rattle.std.proofs.lemmas.Str.Parse.{IsNumeralModel, numerals_by_value, parse_signed_minus, parse_signed_plain}
use Rattle.cml_text.specs.Lexemes.{are_digits, is_number, number_value, negative_value, positive_value}

-- a text may be cut before the first byte that fails a test which all bytes beyond ASCII pass
pub cut_before : (p : ℕ → Bool) (low : (b : ℕ) → p b ≡ false → b < 128) (bytes : List ℕ) → IsCharBoundary bytes (prefix_len p bytes)
cut_before p low bytes = (prefix_len-le-length p bytes, λ inside high. absurd (omega (arith, low (get_or bytes (prefix_len p bytes) 0) (prefix_len_stops p bytes 0 inside))))

-- a text may be cut after its first character
pub first_cut : (text rest : List ℕ) (c n : ℕ) → IsUtf8 text → text ≡ encode_utf8 c ++ rest → n ≡ len_utf8 c → IsCharBoundary text n
first_cut text rest c n utf8 e m =
    let P : ℕ → Type 0 = λ k. IsCharBoundary text k in
    let same : 0 + len_utf8 c ≡ n = omega arith in
    subst P same (IsCharBoundary-past_char text rest 0 c (omega arith) utf8 e)

-- and the characters are that one and those after it
pub first_chars : (text rest : List ℕ) (c n : ℕ) → IsUtf8 text → text ≡ encode_utf8 c ++ rest → n ≡ len_utf8 c → chars text ≡ c ∷ chars (drop n text)
first_chars text rest c n utf8 e m =
    let same : 0 + len_utf8 c ≡ n = omega arith in
    chars_past_char text rest c utf8 e ∙ ap (λ r. c ∷ chars r) (sym (drop_past_char text rest 0 c e)) ∙ ap (λ k. c ∷ chars (drop k text)) same

-- a test passes or fails
pub cases_test : (b : Bool) → (b ≡ true) ⊎ (b ≡ false)
cases_test true = inl refl
cases_test false = inr refl

-- the tests for digits are those of `parse`
pub digits_own : IsNumeralModel (λ ds. list_all is_ascii_digit ds ≡ true) (digits_value 10)
digits_own = numerals_by_value _ (search rules)

-- what `ok` makes of a result that is known to be Ok just where a test passes
value_from : {E : Type 0} (r : Result ℤ E) (P : Type 0) (v : ℤ) (test : Bool) → OkIff r P v → (test ≡ true → P) → (P → test ≡ true) → result_ok r ≡ cond test (Some v) None
value_from (Ok x) P v true h f g = ap (λ y. Some y) h.1
value_from (Ok x) P v false h f g = let e = g h.0 in cc
value_from (Err e) P v true h f g = absurd (h (f refl))
value_from (Err e) P v false h f g = refl

both_true : (a b : Bool) → (a && b) ≡ true → (a ≡ true) × (b ≡ true)
both_true true b h = (refl, h)
both_true false b h = absurd (false≢true h)

pub digits_parts : (ds : List ℕ) → are_digits ds ≡ true → (0 < length ds) × (list_all is_ascii_digit ds ≡ true)
digits_parts [] h = absurd (false≢true h)
digits_parts (d ∷ ds) h = (omega arith, (both_true _ _ h).1)

minus_value : {E : Type 0} (b : ℕ) (bs : List ℕ) (r : Result ℤ E) → b ≡ 45 → are_digits bs ≡ true → ParsesSigned w64 10 (b ∷ bs) r → result_ok r ≡ negative_value (digits_value 10 bs)
minus_value b bs r e h p =
    let parts = digits_parts bs h in
    value_from r _ _ _ (parse_signed_minus digits_own w64 (b ∷ bs) r p e)
    (λ t. (parts.1, parts.0, grind (arith, nat_tests)))
    (λ q. let small = q.2 in grind (arith, nat_tests))

no_plus : (b : ℕ) (bs : List ℕ) → list_all is_ascii_digit (b ∷ bs) ≡ true → b ≢ 43
no_plus b bs h e = let f : list_all is_ascii_digit (43 ∷ bs) ≡ true = rw e at h in absurd (false≢true f)

plain_value : {E : Type 0} (b : ℕ) (bs : List ℕ) (r : Result ℤ E) → b ≢ 45 → are_digits (b ∷ bs) ≡ true → ParsesSigned w64 10 (b ∷ bs) r → result_ok r ≡ positive_value (digits_value 10 (b ∷ bs))
plain_value b bs r e h p =
    let parts = digits_parts (b ∷ bs) h in
    value_from r _ _ _ (parse_signed_plain digits_own w64 (b ∷ bs) r p (no_plus b bs parts.1) e)
    (λ t. (parts.1, parts.0, grind (arith, nat_tests)))
    (λ q. let small = q.2 in grind (arith, nat_tests))

-- what `parse` and `ok` make of a number
pub number-parse : {E : Type 0} (token : List ℕ) (r : Result ℤ E) → is_number token ≡ true → ParsesSigned w64 10 token r → result_ok r ≡ number_value token
number-parse [] r h p = absurd (false≢true h)
number-parse (b ∷ bs) r h p =
    elim (cases_test (eqb b 45)) [
      | inl e ↦ let d : are_digits bs ≡ true = rw e at h in rw e (minus_value b bs r (grind (arith, nat_tests)) d p)
      | inr e ↦ let d : are_digits (b ∷ bs) ≡ true = rw e at h in rw e (plain_value b bs r (grind (arith, nat_tests)) d p)
    ]
