-- A keyword with numbers after it: how it is printed, and what is read of it.
use Rattle.std.proofs.Common.{◌≡◌, ℕ, ◌*◌, ◌<◌, ◌≤◌, ◌^◌, pos, IsTrue, List, [], ◌∷◌, ◌++◌, length, map, refl, ap, subst, arith}
use Rattle.std.specs.List.{flat_map, AllByRecursion as Each}
use Rattle.std.specs.Str.{IsUtf8}
use Rattle.std.specs.Fmt.{decimal}
use Rattle.std.proofs.lemmas.Fmt.{length-decimal-le}
use Rattle.std.proofs.lemmas.List.{length-append}
use Rattle.cml_text.specs.declared.sexpr.Span.{Span}
use Rattle.cml_text.specs.Forms.{PlainSexpr, plain_name, plain_int, plain_forms, nowhere, all_without_spans, nesting_of}
use Rattle.cml_text.specs.Lexemes.{is_name}
use Rattle.cml_text.specs.Limits.{AreProper, AreWithinLimits}
use Rattle.cml_text.specs.Printed.{printed_behind, printed_line}
use Rattle.cml_scan.specs.Numbers.{spaced}

abbrev pub numbers : List ℕ → List PlainSexpr
numbers ns = map (λ n. plain_int nowhere (pos n)) ns

abbrev pub phrase : List ℕ → List ℕ → List PlainSexpr
phrase word ns = plain_name nowhere word ∷ numbers ns

-- these numbers, wherever they stand
pub data AreAt : List PlainSexpr → List ℕ → Type 0 where
  none : AreAt [] []
  one_more : (span : Span) (n : ℕ) (forms : List PlainSexpr) (ns : List ℕ) → AreAt forms ns → AreAt (plain_int span (pos n) ∷ forms) (n ∷ ns)

-- this keyword and these numbers, wherever they stand
pub data IsAt : List PlainSexpr → List ℕ → List ℕ → Type 0 where
  phrase_at : (span : Span) (word : List ℕ) (forms : List PlainSexpr) (ns : List ℕ) → AreAt forms ns → IsAt (plain_name span word ∷ forms) word ns

are_at : (found : List PlainSexpr) (ns : List ℕ) → all_without_spans (plain_forms found) ≡ all_without_spans (plain_forms (numbers ns)) → AreAt found ns
are_at [] [] e = none
are_at [] (n ∷ ns) e = cc
are_at (plain_int span (pos m) ∷ found) (n ∷ ns) e =
    let same : m ≡ n = cc in
    let rest : all_without_spans (plain_forms found) ≡ all_without_spans (plain_forms (numbers ns)) = cc in
    subst (λ (k : ℕ). AreAt (plain_int span (pos m) ∷ found) (k ∷ ns)) same (one_more span m found ns (are_at found ns rest))
are_at (form ∷ found) [] e = cc
are_at (form ∷ found) (n ∷ ns) e = cc

pub is_at : (found : List PlainSexpr) (word ns : List ℕ) → all_without_spans (plain_forms found) ≡ all_without_spans (plain_forms (phrase word ns)) → IsAt found word ns
is_at [] word ns e = cc
is_at (plain_name span bytes ∷ found) word ns e =
    let same : bytes ≡ word = cc in
    let rest : all_without_spans (plain_forms found) ≡ all_without_spans (plain_forms (numbers ns)) = cc in
    subst (λ (w : List ℕ). IsAt (plain_name span bytes ∷ found) w ns) same (phrase_at span bytes found ns (are_at found ns rest))
is_at (form ∷ found) word ns e = cc

-- how it is printed

printed_numbers : (ns : List ℕ) → printed_behind (plain_forms (numbers ns)) ≡ flat_map spaced ns
printed_numbers [] = refl
printed_numbers (n ∷ ns) = ap (λ t. 32 ∷ (decimal n ++ t)) (printed_numbers ns)

pub printed_phrase : (word ns : List ℕ) → printed_line (phrase word ns) ≡ word ++ flat_map spaced ns
printed_phrase word ns = ap (λ t. word ++ t) (printed_numbers ns)

-- how long it is

length_number : (n : ℕ) → n < 2 ^ 63 → length (spaced n) ≤ 20
length_number n lt =
    let digits : length (decimal n) ≤ 19 = length-decimal-le 19 n (omega arith) (omega arith) (omega arith) in
    omega (arith, digits)

pub length_numbers : (ns : List ℕ) → Each (λ n. n < 2 ^ 63) ns → length (flat_map spaced ns) ≤ 20 * length ns
length_numbers [] h = omega arith
length_numbers (n ∷ ns) h =
    let first = length_number n h.0 in
    let rest = length_numbers ns h.1 in
    let both = length-append (spaced n) (flat_map spaced ns) in
    omega (arith, first, rest, both)

-- it is within the limits

proper_numbers : (ns : List ℕ) → Each (λ n. n < 2 ^ 63) ns → AreProper (plain_forms (numbers ns))
proper_numbers [] h = tt
proper_numbers (n ∷ ns) h = (h.0, proper_numbers ns h.1)

flat_numbers : (ns : List ℕ) → nesting_of (plain_forms (numbers ns)) ≡ 0
flat_numbers [] = refl
flat_numbers (n ∷ ns) = let rest = flat_numbers ns in omega (arith, rest)

pub proper_phrase : (word ns : List ℕ) → IsUtf8 word → IsTrue (is_name word) → Each (λ n. n < 2 ^ 63) ns → AreWithinLimits (phrase word ns)
proper_phrase word ns utf8 name small = record {
  proper = ((utf8, name), proper_numbers ns small);
  shallow = let flat = flat_numbers ns in omega (arith, flat);
}
