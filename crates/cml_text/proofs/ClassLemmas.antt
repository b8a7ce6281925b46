-- The grammar's separators, delimiters, numbers, names and escapes are the reader's.
use Rattle.std.proofs.Common.{◌≡◌, ℕ, zero, suc, ◌+◌, ◌-◌, ◌*◌, ◌^◌, ◌<◌, ◌≤◌, Bool, true, false, ◌||◌, eqb, leb}
use Rattle.std.proofs.Common.{ltb, List, [], ◌∷◌, ◌++◌, length, refl, ap, sym, ◌∙◌, subst, arith, Some, None}
use Rattle.std.proofs.Common.{append_assoc, inl, inr, ◌⊎◌, ℤ, pos}
use Rattle.std.specs.Prelude.{neg_ℤ}
use Rattle.std.specs.Char.{is_ascii_digit, digit_value}
use Rattle.std.specs.List.{list_all, All}
use Rattle.std.specs.Str.{chars}
use Rattle.std.specs.Str.Parse.{digits_value}
use Rattle.std.proofs.lemmas.Bool.{false≢true}
use Rattle.std.proofs.lemmas.Bool.Decides.{nat_tests}
use Rattle.std.proofs.lemmas.Int.Digits.{digits_value_push}
use Rattle.std.proofs.lemmas.List.{append-nil, length-append}
use Rattle.std.proofs.lemmas.List.Elements.{All-nil, All-cons, All-head, All-tail}
use Rattle.std.proofs.lemmas.List.Folds.{list_all-append}
use Rattle.std.proofs.lemmas.Str.{chars-nil}
use Rattle.unicode_ident.specs.Ident.{is_xid_start, is_xid_continue}
use Rattle.cml_text.specs.Lexemes.{is_separator, is_delimiter, is_token_byte, are_digits, is_number, negative_value, positive_value, number_value, is_operator, is_word, is_name, unescaped}
use Rattle.cml_text.specs.Limits.{IsSmall}
use Rattle.cml_text.specs.Grammar.{Separates, Delimits, AreDigits, IsNumeral, IsOperator, SpellsName, Escapes}
use Rattle.cml_text.proofs.WordLemmas.{cases_test, digits_parts}
use Rattle.cml_text.proofs.PrintedLemmas.{all_of_both, digits_numeral}

is_byte : (b c : ℕ) → eqb b c ≡ true → c ≡ b
is_byte b c e = grind (arith, nat_tests)

pub separates_test : (b : ℕ) → Separates b → is_separator b ≡ true
separates_test b Separates.space = refl
separates_test b Separates.tab = refl
separates_test b Separates.carriage_return = refl
separates_test b Separates.line_feed = refl

pub test_separates : (b : ℕ) → is_separator b ≡ true → Separates b
test_separates b h =
    elim (cases_test (eqb b 32)) [
      | inl e ↦ subst Separates (is_byte b 32 e) Separates.space
      | inr e ↦
          elim (cases_test (eqb b 9)) [
            | inl e2 ↦ subst Separates (is_byte b 9 e2) Separates.tab
            | inr e2 ↦
                elim (cases_test (eqb b 13)) [
                  | inl e3 ↦ subst Separates (is_byte b 13 e3) Separates.carriage_return
                  | inr e3 ↦ let e4 : eqb b 10 ≡ true = rw (e, e2, e3) at h in subst Separates (is_byte b 10 e4) Separates.line_feed
                ]
          ]
    ]

pub delimits_test : (b : ℕ) → Delimits b → is_delimiter b ≡ true
delimits_test b (Delimits.separating c is) = rw (separates_test c is) refl
delimits_test b Delimits.opening_parenthesis = refl
delimits_test b Delimits.closing_parenthesis = refl
delimits_test b Delimits.quote = refl
delimits_test b Delimits.semicolon = refl

pub test_delimits : (b : ℕ) → is_delimiter b ≡ true → Delimits b
test_delimits b h =
    elim (cases_test (is_separator b)) [
      | inl e ↦ Delimits.separating b (test_separates b e)
      | inr e ↦
          elim (cases_test (eqb b 40)) [
            | inl e2 ↦ subst Delimits (is_byte b 40 e2) Delimits.opening_parenthesis
            | inr e2 ↦
                elim (cases_test (eqb b 41)) [
                  | inl e3 ↦ subst Delimits (is_byte b 41 e3) Delimits.closing_parenthesis
                  | inr e3 ↦
                      elim (cases_test (eqb b 34)) [
                        | inl e4 ↦ subst Delimits (is_byte b 34 e4) Delimits.quote
                        | inr e4 ↦ let e5 : eqb b 59 ≡ true = rw (e, e2, e3, e4) at h in subst Delimits (is_byte b 59 e5) Delimits.semicolon
                      ]
                ]
          ]
    ]

no_delimiter : (b : ℕ) → (Delimits b → ⊥) → is_token_byte b ≡ true
no_delimiter b none =
    elim (cases_test (is_delimiter b)) [
      | inl e ↦ absurd (none (test_delimits b e))
      | inr e ↦ rw e refl
    ]

delimits_none : (b : ℕ) → is_token_byte b ≡ true → Delimits b → ⊥
delimits_none b h is = let e : is_delimiter b ≡ true = delimits_test b is in let bad : false ≡ true = rw e at h in absurd (false≢true bad)

pub undivided_test : (token : List ℕ) → All (λ b. Delimits b → ⊥) token → list_all is_token_byte token ≡ true
undivided_test [] none = refl
undivided_test (b ∷ token) none = rw (no_delimiter b (All-head (λ k. Delimits k → ⊥) b token none)) (undivided_test token (All-tail (λ k. Delimits k → ⊥) b token none))

pub test_undivided : (token : List ℕ) → list_all is_token_byte token ≡ true → All (λ b. Delimits b → ⊥) token
test_undivided [] h = All-nil (λ k. Delimits k → ⊥)
test_undivided (b ∷ token) h =
    let both = all_of_both (is_token_byte b) (list_all is_token_byte token) h in
    All-cons (λ k. Delimits k → ⊥) b token (delimits_none b both.0) (test_undivided token both.1)

-- Digits.

digit_test : (d : ℕ) → d < 10 → is_ascii_digit (48 + d) ≡ true
digit_test d small = grind (arith, nat_tests)

digit_worth : (d : ℕ) → d < 10 → digit_value (48 + d) ≡ d
digit_worth d small = grind (arith, nat_tests)

one_worth : (b : ℕ) → digits_value 10 (b ∷ []) ≡ digit_value b
one_worth b = let none : digits_value 10 [] ≡ 0 = refl in omega (arith, none, digits_value_push 10 [] b)

record DigitsWorth (digits : List ℕ) (n : ℕ) : Type 0 where
  some : 0 < length digits
  all : list_all is_ascii_digit digits ≡ true
  worth : digits_value 10 digits ≡ n

digits_worth : (digits : List ℕ) (n : ℕ) → AreDigits digits n → DigitsWorth digits n
digits_worth digits n (AreDigits.digit d small) =
    record {
      some = omega arith;
      all = rw (digit_test d small) refl;
      worth = one_worth (48 + d) ∙ digit_worth d small;
    }
digits_worth digits n (AreDigits.digit_behind ds m d is small) =
    let r = digits_worth ds m is in
    let last : list_all is_ascii_digit ((48 + d) ∷ []) ≡ true = rw (digit_test d small) refl in
    record {
      some = omega (arith, length-append ds ((48 + d) ∷ []));
      all = list_all-append is_ascii_digit ds ((48 + d) ∷ []) ∙ rw r.all last;
      worth = digits_value_push 10 ds (48 + d) ∙ omega (arith, r.worth, digit_worth d small);
    }

is_a_digit : (b : ℕ) → is_ascii_digit b ≡ true → (48 + (b - 48) ≡ b) × ((b - 48 < 10) × (digit_value b ≡ b - 48))
is_a_digit b h = (grind (arith, nat_tests), (grind (arith, nat_tests), grind (arith, nat_tests)))

one_digit : (b : ℕ) → is_ascii_digit b ≡ true → AreDigits (b ∷ []) (digits_value 10 (b ∷ []))
one_digit b h =
    let is = is_a_digit b h in
    let worth : b - 48 ≡ digits_value 10 (b ∷ []) = sym (one_worth b ∙ is.1.1) in
    let here : AreDigits ((48 + (b - 48)) ∷ []) (digits_value 10 (b ∷ [])) = subst (AreDigits ((48 + (b - 48)) ∷ [])) worth (AreDigits.digit (b - 48) is.1.0) in
    subst (λ (k : ℕ). AreDigits (k ∷ []) (digits_value 10 (b ∷ []))) is.0 here

digit_more : (front : List ℕ) (b : ℕ) → AreDigits front (digits_value 10 front) → is_ascii_digit b ≡ true → AreDigits (front ++ b ∷ []) (digits_value 10 (front ++ b ∷ []))
digit_more front b are h =
    let is = is_a_digit b h in
    let worth : 10 * digits_value 10 front + (b - 48) ≡ digits_value 10 (front ++ b ∷ []) = omega (arith, digits_value_push 10 front b, is.1.1) in
    let here : AreDigits (front ++ (48 + (b - 48)) ∷ []) (digits_value 10 (front ++ b ∷ [])) =
    subst (AreDigits (front ++ (48 + (b - 48)) ∷ [])) worth (AreDigits.digit_behind front (digits_value 10 front) (b - 48) are is.1.0) in
    subst (λ (k : ℕ). AreDigits (front ++ k ∷ []) (digits_value 10 (front ++ b ∷ []))) is.0 here

digits_on : (front rest : List ℕ) → AreDigits front (digits_value 10 front) → list_all is_ascii_digit rest ≡ true → AreDigits (front ++ rest) (digits_value 10 (front ++ rest))
digits_on front [] are h = subst (λ (bs : List ℕ). AreDigits bs (digits_value 10 bs)) (sym (append-nil front)) are
digits_on front (b ∷ rest) are h =
    let both = all_of_both (is_ascii_digit b) (list_all is_ascii_digit rest) h in
    subst (λ (bs : List ℕ). AreDigits bs (digits_value 10 bs)) (append_assoc front (b ∷ []) rest) (digits_on (front ++ b ∷ []) rest (digit_more front b are both.0) both.1)

digits_are : (digits : List ℕ) → 0 < length digits → list_all is_ascii_digit digits ≡ true → AreDigits digits (digits_value 10 digits)
digits_are [] some h = absurd (omega arith)
digits_are (b ∷ rest) some h =
    let both = all_of_both (is_ascii_digit b) (list_all is_ascii_digit rest) h in
    digits_on (b ∷ []) rest (one_digit b both.0) both.1

-- Numbers.

pub numeral_test : (token : List ℕ) (value : ℤ) → IsNumeral token value → (is_number token ≡ true) × (number_value token ≡ Some value)
numeral_test token value (IsNumeral.unsigned ds n is small) =
    let r = digits_worth ds n is in
    let both = digits_numeral ds r.some r.all in
    let fits : ltb n (2 ^ 63) ≡ true = grind (arith, nat_tests) in
    (both.0, both.1 ∙ ap positive_value r.worth ∙ rw fits refl)
numeral_test token value (IsNumeral.behind_minus ds n is small) =
    let r = digits_worth ds n is in
    let some : 0 < length ds = r.some in
    let some' : eqb (length ds) 0 ≡ false = grind (arith, nat_tests) in
    let fits : leb n (2 ^ 63) ≡ true = grind (arith, nat_tests) in
    (rw some' r.all, ap negative_value r.worth ∙ rw fits refl)

negative_numeral : (digits : List ℕ) (n : ℕ) (value : ℤ) → AreDigits digits n → negative_value n ≡ Some value → IsNumeral (45 ∷ digits) value
negative_numeral digits n value are worth =
    elim (cases_test (leb n (2 ^ 63))) [
      | inl e ↦
          let same : Some (neg_ℤ (pos n)) ≡ Some value = rw e at worth in
          let is : neg_ℤ (pos n) ≡ value = cc in
          let small : n ≤ 2 ^ 63 = grind (arith, nat_tests) in
          subst (IsNumeral (45 ∷ digits)) is (IsNumeral.behind_minus digits n are small)
      | inr e ↦ let clash : None ≡ Some value = rw e at worth in absurd (cc)
    ]

positive_numeral : (digits : List ℕ) (n : ℕ) (value : ℤ) → AreDigits digits n → positive_value n ≡ Some value → IsNumeral digits value
positive_numeral digits n value are worth =
    elim (cases_test (ltb n (2 ^ 63))) [
      | inl e ↦
          let same : Some (pos n) ≡ Some value = rw e at worth in
          let is : pos n ≡ value = cc in
          let small : n < 2 ^ 63 = grind (arith, nat_tests) in
          subst (IsNumeral digits) is (IsNumeral.unsigned digits n are small)
      | inr e ↦ let clash : None ≡ Some value = rw e at worth in absurd (cc)
    ]

pub test_numeral : (token : List ℕ) (value : ℤ) → is_number token ≡ true → number_value token ≡ Some value → IsNumeral token value
test_numeral [] value num worth = absurd (false≢true num)
test_numeral (b ∷ bytes) value num worth =
    elim (cases_test (eqb b 45)) [
      | inl e ↦
          let num' : are_digits bytes ≡ true = rw e at num in
          let worth' : negative_value (digits_value 10 bytes) ≡ Some value = rw e at worth in
          let parts = digits_parts bytes num' in
          subst (λ (k : ℕ). IsNumeral (k ∷ bytes) value) (is_byte b 45 e) (negative_numeral bytes (digits_value 10 bytes) value (digits_are bytes parts.0 parts.1) worth')
      | inr e ↦
          let num' : are_digits (b ∷ bytes) ≡ true = rw e at num in
          let worth' : positive_value (digits_value 10 (b ∷ bytes)) ≡ Some value = rw e at worth in
          let parts = digits_parts (b ∷ bytes) num' in
          positive_numeral (b ∷ bytes) (digits_value 10 (b ∷ bytes)) value (digits_are (b ∷ bytes) parts.0 parts.1) worth'
    ]

pub numeral_small : (token : List ℕ) (value : ℤ) → IsNumeral token value → IsSmall value
numeral_small token value (IsNumeral.unsigned ds n is small) = small
numeral_small token value (IsNumeral.behind_minus ds zero is small) = omega arith
numeral_small token value (IsNumeral.behind_minus ds (suc n) is small) = omega arith

-- Names.

operator_test : (b : ℕ) → IsOperator b → is_operator (b ∷ []) ≡ true
operator_test b IsOperator.plus = refl
operator_test b IsOperator.minus = refl
operator_test b IsOperator.star = refl
operator_test b IsOperator.less = refl
operator_test b IsOperator.equals = refl

test_operator : (b : ℕ) → is_operator (b ∷ []) ≡ true → IsOperator b
test_operator b h =
    elim (cases_test (eqb b 43)) [
      | inl e ↦ subst IsOperator (is_byte b 43 e) IsOperator.plus
      | inr e ↦
          elim (cases_test (eqb b 45)) [
            | inl e2 ↦ subst IsOperator (is_byte b 45 e2) IsOperator.minus
            | inr e2 ↦
                elim (cases_test (eqb b 42)) [
                  | inl e3 ↦ subst IsOperator (is_byte b 42 e3) IsOperator.star
                  | inr e3 ↦
                      elim (cases_test (eqb b 60)) [
                        | inl e4 ↦ subst IsOperator (is_byte b 60 e4) IsOperator.less
                        | inr e4 ↦ let e5 : eqb b 61 ≡ true = rw (e, e2, e3, e4) at h in subst IsOperator (is_byte b 61 e5) IsOperator.equals
                      ]
                ]
          ]
    ]

all_test : (p : ℕ → Bool) (cs : List ℕ) → All (λ c. p c ≡ true) cs → list_all p cs ≡ true
all_test p [] all = refl
all_test p (c ∷ cs) all = rw (All-head (λ k. p k ≡ true) c cs all) (all_test p cs (All-tail (λ k. p k ≡ true) c cs all))

test_all : (p : ℕ → Bool) (cs : List ℕ) → list_all p cs ≡ true → All (λ c. p c ≡ true) cs
test_all p [] h = All-nil (λ k. p k ≡ true)
test_all p (c ∷ cs) h = let both = all_of_both (p c) (list_all p cs) h in All-cons (λ k. p k ≡ true) c cs both.0 (test_all p cs both.1)

or_right : (x y : Bool) → y ≡ true → (x || y) ≡ true
or_right true y h = refl
or_right false y h = h

starts_test : (c : ℕ) → (c ≡ 95) ⊎ (is_xid_start c ≡ true) → (eqb c 95 || is_xid_start c) ≡ true
starts_test c (inl same) = rw same refl
starts_test c (inr start) = or_right (eqb c 95) (is_xid_start c) start

test_starts : (c : ℕ) → (eqb c 95 || is_xid_start c) ≡ true → (c ≡ 95) ⊎ (is_xid_start c ≡ true)
test_starts c h =
    elim (cases_test (eqb c 95)) [
      | inl e ↦ inl (sym (is_byte c 95 e))
      | inr e ↦ let start : is_xid_start c ≡ true = rw e at h in inr start
    ]

pub name_test : (token : List ℕ) → SpellsName token → is_name token ≡ true
unfolding is_name
name_test token (SpellsName.operator b is) = rw (operator_test b is) refl
name_test token (SpellsName.word bytes c cs e start all) =
    let is : is_word (chars bytes) ≡ true = ap is_word e ∙ rw (starts_test c start) (all_test is_xid_continue cs all) in
    or_right (is_operator bytes) (is_word (chars bytes)) is

operator_name : (token : List ℕ) → is_operator token ≡ true → SpellsName token
operator_name [] h = absurd (false≢true h)
operator_name (b ∷ []) h = SpellsName.operator b (test_operator b h)
operator_name (b ∷ c ∷ bytes) h = absurd (false≢true h)

word_name : (token cs : List ℕ) → chars token ≡ cs → is_word cs ≡ true → SpellsName token
word_name token [] e h = absurd (false≢true h)
word_name token (c ∷ cs) e h =
    let both = all_of_both (eqb c 95 || is_xid_start c) (list_all is_xid_continue cs) h in
    SpellsName.word token c cs e (test_starts c both.0) (test_all is_xid_continue cs both.1)

pub test_name : (token : List ℕ) → is_name token ≡ true → SpellsName token
unfolding is_name
test_name token h =
    elim (cases_test (is_operator token)) [
      | inl e ↦ operator_name token e
      | inr e ↦ let word : is_word (chars token) ≡ true = rw e at h in word_name token (chars token) refl word
    ]

-- Escapes.

pub escape_test : (b c : ℕ) → Escapes b c → unescaped b ≡ Some c
escape_test b c Escapes.to_quote = refl
escape_test b c Escapes.to_backslash = refl
escape_test b c Escapes.to_line_feed = refl

escape_to : (b : ℕ) (c d : ℕ) → Escapes b d → Some d ≡ Some c → Escapes b c
escape_to b c d is e = let same : d ≡ c = cc in subst (Escapes b) same is

pub test_escape : (b c : ℕ) → unescaped b ≡ Some c → Escapes b c
test_escape b c h =
    elim (cases_test (eqb b 34)) [
      | inl e ↦ let f : Some 34 ≡ Some c = rw e at h in escape_to b c 34 (subst (λ (k : ℕ). Escapes k 34) (is_byte b 34 e) Escapes.to_quote) f
      | inr e ↦
          elim (cases_test (eqb b 92)) [
            | inl e2 ↦ let f : Some 92 ≡ Some c = rw (e, e2) at h in escape_to b c 92 (subst (λ (k : ℕ). Escapes k 92) (is_byte b 92 e2) Escapes.to_backslash) f
            | inr e2 ↦
                elim (cases_test (eqb b 110)) [
                  | inl e3 ↦ let f : Some 10 ≡ Some c = rw (e, e2, e3) at h in escape_to b c 10 (subst (λ (k : ℕ). Escapes k 10) (is_byte b 110 e3) Escapes.to_line_feed) f
                  | inr e3 ↦ let clash : None ≡ Some c = rw (e, e2, e3) at h in absurd (cc)
                ]
          ]
    ]

pub numeral_some : (token : List ℕ) (value : ℤ) → IsNumeral token value → 0 < length token
numeral_some token value (IsNumeral.unsigned ds n is small) = (digits_worth ds n is).some
numeral_some token value (IsNumeral.behind_minus ds n is small) = omega arith

named_some : (token : List ℕ) → is_name token ≡ true → 0 < length token
unfolding is_name
named_some [] h = let none : is_word [] ≡ true = ap is_word (sym chars-nil) ∙ h in absurd (false≢true none)
named_some (b ∷ token) h = omega arith

pub name_some : (token : List ℕ) → SpellsName token → 0 < length token
name_some token is = named_some token (name_test token is)
