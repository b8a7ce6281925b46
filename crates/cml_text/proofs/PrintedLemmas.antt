-- What is printed is read back.
use Rattle.std.proofs.Common.{◌≡◌, ℕ, suc, ◌^◌, ◌<◌, ◌≤◌, Bool, true, false, ◌&&◌, ◌||◌, eqb, leb, ltb, List, [], ◌∷◌, ◌++◌, length, get_or, refl, ap, sym, ◌∙◌, arith, Some, inl, inr, ℤ, pos, negsuc}
use Rattle.std.specs.Char.{is_ascii_digit, is_ascii_alphabetic, is_ascii_alphanumeric}
use Rattle.std.specs.List.{prefix_len, list_all}
use Rattle.std.specs.Fmt.{decimal, signed_decimal}
use Rattle.std.specs.Str.{encode_utf8_all, IsUtf8, chars, NonePass, NoCharPasses}
use Rattle.std.specs.Str.Parse.{digits_value}
use Rattle.std.proofs.lemmas.Bool.{false≢true}
use Rattle.std.proofs.lemmas.Bool.Decides.{nat_tests}
use Rattle.std.proofs.lemmas.Fmt.{digits_decimal, digits_value-decimal, decimal_nonempty}
use Rattle.std.proofs.lemmas.Str.{NoCharPasses-byte, encodes-chars, char_from_byte, chars-nil}
use Rattle.unicode_ident.specs.Ident.{is_xid_start, is_xid_continue}
use Rattle.unicode_ident.proofs.IdentLemmas.{is_xid_start-ascii, is_xid_continue-ascii, is_xid_start-is_xid_continue}
use Rattle.cml_text.specs.Lexemes.{is_delimiter, is_token_byte, is_operator, is_word, is_name, is_number, number_value, positive_value, negative_value}
use Rattle.cml_text.specs.Limits.{IsSmall}
use Rattle.cml_text.proofs.WordLemmas.{cases_test, digits_own}

-- nothing follows, or a byte that ends the run
abbrev pub Stops : (ℕ → Bool) → List ℕ → Type 0
Stops p [] = Unit {0}
Stops p (b ∷ rest) = p b ≡ false

pub run-append : (p : ℕ → Bool) (bytes rest : List ℕ) → list_all p bytes ≡ true → Stops p rest → prefix_len p (bytes ++ rest) ≡ length bytes
run-append p [] [] all stop = refl
run-append p [] (b ∷ rest) all stop = rw stop refl
run-append p (b ∷ bytes) rest all stop =
    elim (cases_test (p b)) [
      | inl e ↦ let more : list_all p bytes ≡ true = rw e at all in rw e (omega (arith, run-append p bytes rest more stop))
      | inr e ↦ let none : false ≡ true = rw e at all in absurd (false≢true none)
    ]

-- the tests of two parts
pub all_of_both : (a b : Bool) → (a && b) ≡ true → (a ≡ true) × (b ≡ true)
all_of_both true b h = (refl, h)
all_of_both false b h = absurd (false≢true h)

pub list_all-weaker : (p q : ℕ → Bool) (weaker : (b : ℕ) → p b ≡ true → q b ≡ true) (bytes : List ℕ) → list_all p bytes ≡ true → list_all q bytes ≡ true
list_all-weaker p q weaker [] all = refl
list_all-weaker p q weaker (b ∷ bytes) all =
    let parts : (p b ≡ true) × (list_all p bytes ≡ true) = all_of_both (p b) (list_all p bytes) all in
    rw (weaker b parts.0) (list_all-weaker p q weaker bytes parts.1)

digit_token : (b : ℕ) → is_ascii_digit b ≡ true → is_token_byte b ≡ true
digit_token b h = grind (arith, nat_tests)

digit_no_minus : (b : ℕ) → is_ascii_digit b ≡ true → eqb b 45 ≡ false
digit_no_minus b h = grind (arith, nat_tests)

pub digits_numeral : (ds : List ℕ) → 0 < length ds → list_all is_ascii_digit ds ≡ true → (is_number ds ≡ true) × (number_value ds ≡ positive_value (digits_value 10 ds))
digits_numeral [] some all = absurd (omega arith)
digits_numeral (d ∷ ds) some all =
    let e : eqb d 45 ≡ false = digit_no_minus d (all_of_both _ _ all).0 in
    let n : eqb (length (d ∷ ds)) 0 ≡ false = grind (arith, nat_tests) in
    (rw e (rw n all), rw e refl)

-- a number is a token that is read as it
pub record IsNumberToken (token : List ℕ) (value : ℤ) : Type 0 where
  pub some : 0 < length token
  pub bytes : list_all is_token_byte token ≡ true
  pub number : is_number token ≡ true
  pub worth : number_value token ≡ Some value

pub printed_number : (z : ℤ) → IsSmall z → IsNumberToken (signed_decimal z) z
printed_number (pos n) small =
    let all : list_all is_ascii_digit (decimal n) ≡ true = digits_decimal digits_own n (omega arith) in
    let some : 0 < length (decimal n) = decimal_nonempty n (omega arith) in
    let both = digits_numeral (decimal n) some all in
    let fits : ltb n (2 ^ 63) ≡ true = grind (arith, nat_tests) in
    record {
      some = some;
      bytes = list_all-weaker is_ascii_digit is_token_byte digit_token (decimal n) all;
      number = both.0;
      worth = both.1 ∙ ap positive_value (digits_value-decimal digits_own n (omega arith)) ∙ rw fits refl;
    }
printed_number (negsuc n) small =
    let all : list_all is_ascii_digit (decimal (suc n)) ≡ true = digits_decimal digits_own (suc n) (omega arith) in
    let some : 0 < length (decimal (suc n)) = decimal_nonempty (suc n) (omega arith) in
    let some' : eqb (length (decimal (suc n))) 0 ≡ false = grind (arith, nat_tests) in
    let fits : leb (suc n) (2 ^ 63) ≡ true = grind (arith, nat_tests) in
    record {
      some = omega arith;
      bytes = list_all-weaker is_ascii_digit is_token_byte digit_token (decimal (suc n)) all;
      number = rw some' all;
      worth = ap negative_value (digits_value-decimal digits_own (suc n) (omega arith)) ∙ rw fits refl;
    }

-- no delimiter may start or continue an identifier
continues_token : (c : ℕ) → is_xid_continue c ≡ true → is_delimiter c ≡ false
continues_token c h =
    elim (cases_test (ltb c 128)) [
      | inl low ↦
          let small : c < 128 = grind (arith, nat_tests) in
          let ascii : (is_ascii_alphanumeric c || eqb c 95) ≡ true = sym (is_xid_continue-ascii c small) ∙ h in
          grind (arith, nat_tests)
      | inr high ↦ let large : 128 ≤ c = grind (arith, nat_tests) in grind (arith, nat_tests)
    ]

starts_token : (c : ℕ) → (eqb c 95 || is_xid_start c) ≡ true → is_delimiter c ≡ false
starts_token c h =
    elim (cases_test (eqb c 95)) [
      | inl e ↦ let same : c ≡ 95 = grind (arith, nat_tests) in rw same refl
      | inr e ↦ let start : is_xid_start c ≡ true = rw e at h in continues_token c (is_xid_start-is_xid_continue c start)
    ]

none_delimits : (cs : List ℕ) → list_all is_xid_continue cs ≡ true → NonePass is_delimiter cs
none_delimits [] all = tt
none_delimits (c ∷ cs) all = let parts = all_of_both (is_xid_continue c) (list_all is_xid_continue cs) all in (continues_token c parts.0, none_delimits cs parts.1)

word_delimits : (cs : List ℕ) → is_word cs ≡ true → NonePass is_delimiter cs
word_delimits [] h = absurd (false≢true h)
word_delimits (c ∷ cs) h = let parts = all_of_both (eqb c 95 || is_xid_start c) (list_all is_xid_continue cs) h in (starts_token c parts.0, none_delimits cs parts.1)

-- a token that no number is
pub record IsNameToken (token : List ℕ) : Type 0 where
  pub some : 0 < length token
  pub bytes : list_all is_token_byte token ≡ true
  pub number : is_number token ≡ false

no_number : (b : ℕ) (bytes : List ℕ) → eqb b 45 ≡ false → is_ascii_digit b ≡ false → is_number (b ∷ bytes) ≡ false
no_number b bytes e d =
    let n : eqb (length (b ∷ bytes)) 0 ≡ false = grind (arith, nat_tests) in
    rw e (rw n (rw d refl))

operator_token : (bytes : List ℕ) → is_operator bytes ≡ true → IsNameToken bytes
operator_token [] h = absurd (false≢true h)
operator_token (b ∷ []) h =
    let t : is_token_byte b ≡ true = grind (arith, nat_tests) in
    let d : is_ascii_digit b ≡ false = grind (arith, nat_tests) in
    record {
      some = omega arith;
      bytes = rw t refl;
      number = elim (cases_test (eqb b 45)) [ inl e ↦ rw e refl | inr e ↦ no_number b [] e d ];
    }
operator_token (b ∷ c ∷ bytes) h = absurd (false≢true h)

list_all_from_places : (p : ℕ → Bool) (bytes : List ℕ) → ((i : ℕ) → i < length bytes → p (get_or bytes i 0) ≡ true) → list_all p bytes ≡ true
list_all_from_places p [] each = refl
list_all_from_places p (b ∷ bytes) each = rw (each 0 (omega arith)) (list_all_from_places p bytes (λ i h. each (suc i) (omega arith)))

word_bytes : (bytes : List ℕ) → NoCharPasses is_delimiter bytes → (i : ℕ) → i < length bytes → is_token_byte (get_or bytes i 0) ≡ true
word_bytes bytes none i h =
    elim (cases_test (ltb (get_or bytes i 0) 128)) [
      | inl e ↦ let low : get_or bytes i 0 < 128 = grind (arith, nat_tests) in rw (NoCharPasses-byte is_delimiter bytes i none h low) refl
      | inr e ↦ let high : 128 ≤ get_or bytes i 0 = grind (arith, nat_tests) in grind (arith, nat_tests)
    ]

-- what may start a name is no minus and no digit
starts_no_number : (c : ℕ) → c < 128 → (eqb c 95 || is_xid_start c) ≡ true → (eqb c 45 ≡ false) × (is_ascii_digit c ≡ false)
starts_no_number c low h =
    let ascii : is_xid_start c ≡ is_ascii_alphabetic c = is_xid_start-ascii c low in
    let h' : (eqb c 95 || is_ascii_alphabetic c) ≡ true = rw ascii at h in
    (grind (arith, nat_tests), grind (arith, nat_tests))

word_first : (b : ℕ) (bytes cs : List ℕ) → encode_utf8_all cs ≡ b ∷ bytes → is_word cs ≡ true → is_number (b ∷ bytes) ≡ false
word_first b bytes [] e h = absurd (false≢true h)
word_first b bytes (c ∷ cs) e h =
    elim (cases_test (ltb b 128)) [
      | inl t ↦
          let low : b < 128 = grind (arith, nat_tests) in
          let same : c ≡ b = char_from_byte (b ∷ bytes) (encode_utf8_all cs) c (sym e) low (omega arith) in
          let start : (eqb b 95 || is_xid_start b) ≡ true = ap (λ k. eqb k 95 || is_xid_start k) (sym same) ∙ (all_of_both (eqb c 95 || is_xid_start c) (list_all is_xid_continue cs) h).0 in
          let parts = starts_no_number b low start in
          no_number b bytes parts.0 parts.1
      | inr t ↦ let high : 128 ≤ b = grind (arith, nat_tests) in no_number b bytes (grind (arith, nat_tests)) (grind (arith, nat_tests))
    ]

word_token : (bytes : List ℕ) → IsUtf8 bytes → is_word (chars bytes) ≡ true → IsNameToken bytes
word_token [] utf8 h = let none : is_word [] ≡ true = ap is_word (sym chars-nil) ∙ h in absurd (false≢true none)
word_token (b ∷ bytes) utf8 h =
    record {
      some = omega arith;
      bytes = list_all_from_places is_token_byte (b ∷ bytes)
          (word_bytes (b ∷ bytes) (chars (b ∷ bytes), encodes-chars (b ∷ bytes) utf8, word_delimits (chars (b ∷ bytes)) h));
      number = word_first b bytes (chars (b ∷ bytes)) (encodes-chars (b ∷ bytes) utf8) h;
    }

pub printed_name : (bytes : List ℕ) → IsUtf8 bytes → is_name bytes ≡ true → IsNameToken bytes
unfolding is_name
printed_name bytes utf8 h =
    elim (cases_test (is_operator bytes)) [
      | inl e ↦ operator_token bytes e
      | inr e ↦ let word : is_word (chars bytes) ≡ true = rw e at h in word_token bytes utf8 word
    ]
