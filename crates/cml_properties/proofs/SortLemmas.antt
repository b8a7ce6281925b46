-- Sorted lists of the same lines are the same list.
use Rattle.std.proofs.Common.{◌≡◌, ◌↔◌, ℕ, suc, ◌+◌, ◌<◌, Bool, true, false, cond, ◌&&◌, List, [], ◌∷◌, length, get_or, refl, ap, sym, ◌∙◌, subst, arith, add-one}
use Rattle.std.specs.Str.{bytes_eq}
use Rattle.std.specs.List.{count_by, Any}
use Rattle.std.specs.List.Sorted.{IsPermutation, IsSortedBy}
use Rattle.std.specs.Cmp.{IsStrictWeakOrder}
use Rattle.std.specs.Cmp.Lexicographic.{slice_cmp, nat_list_cmp_total, pointwise}
use Rattle.std.specs.declared.cmp.Ordering.{Ordering}
use Rattle.std.specs.declared.cmp.Ordering.TheVariants.{Less, Equal, Greater}
use Rattle.std.specs.Ordering.{nat_cmp, ordering_reverse, is_lt, is_eq}
use Rattle.std.proofs.lemmas.Bool.{both_ways, lt-ltb, cond-true}
use Rattle.std.proofs.lemmas.Bool.Decides.{nat_tests}
use Rattle.std.proofs.lemmas.Cmp.{same_from_slice_cmp}
use Rattle.std.proofs.lemmas.List.{get_or-map, length-map}
use Rattle.std.proofs.lemmas.List.Folds.{Any-from_list_any}
use Rattle.std.proofs.lemmas.List.Sorted.{ranks_by, sorted_far, sum_by-IsPermutation, IsPermutation-trans, IsPermutation-sym}
use Rattle.std.proofs.lemmas.List.Sums.{sum_by-cons}
use Rattle.std.proofs.lemmas.Slice.Eq.{bytes_eq-Decides}
use denote.Ref.{Bor}
use Rattle.cml_properties.specs.Agreements.{texts}
use Rattle.cml_properties.proofs.Firsts.{count_some}

abbrev before : List ℕ → List ℕ → Bool
before x y = is_lt (slice_cmp nat_cmp x y)

before_order : IsStrictWeakOrder before
before_order = ranks_by nat_list_cmp_total (λ x. x)

-- neither comes before the other: they are the same
equal_bytes : (x y : List ℕ) (o : Ordering) → o ≡ slice_cmp nat_cmp x y → is_eq o ≡ bytes_eq x y
equal_bytes = same_from_slice_cmp nat_cmp is_eq bytes_eq refl (λ _ _. refl) (λ _ _. refl) (λ x y xs ys o h. grind (arith, nat_tests))

by_order : (x y : List ℕ) (o : Ordering) → o ≡ slice_cmp nat_cmp x y → is_lt o ≡ false → is_lt (ordering_reverse o) ≡ false → x ≡ y
by_order x y Less e h g = absurd (both_ways true h refl)
by_order x y Greater e h g = absurd (both_ways true g refl)
by_order x y Equal e h g = (bytes_eq-Decides x y).0 (sym (equal_bytes x y Equal e))

both_least : (x y : List ℕ) → before x y ≡ false → before y x ≡ false → x ≡ y
both_least x y h g =
    by_order x y (slice_cmp nat_cmp x y) refl h
    (ap (λ o. is_lt (ordering_reverse o)) (nat_list_cmp_total.antisymm x y) ∙ ap is_lt (turned_twice (slice_cmp nat_cmp y x)) ∙ g)
  where
    turned_twice : (o : Ordering) → ordering_reverse (ordering_reverse o) ≡ o
    turned_twice Less = refl
    turned_twice Equal = refl
    turned_twice Greater = refl

-- the first of a sorted list is the least of it
first_least : (x : List ℕ) (xs : List (List ℕ)) (y : List ℕ) → IsSortedBy before (x ∷ xs) → 0 < count_by (bytes_eq y) (x ∷ xs) → before y x ≡ false
first_least x xs y up some =
    let found : Any (λ z. bytes_eq y z ≡ true) (x ∷ xs) =
    Any-from_list_any (bytes_eq y) (x ∷ xs) (sym (count_some (bytes_eq y) (x ∷ xs)) ∙ lt-ltb 0 (count_by (bytes_eq y) (x ∷ xs)) some) in
    let same : y ≡ get_or (x ∷ xs) found.0 found.1 = (bytes_eq-Decides y found.1).0 found.4 ∙ sym found.3 in
    ap (λ z. before z x) same ∙ sorted_far before before_order (x ∷ xs) up 0 found.0 found.1 (omega arith) found.2

rest_sorted : (x : List ℕ) (xs : List (List ℕ)) → IsSortedBy before (x ∷ xs) → IsSortedBy before xs
rest_sorted x xs up = λ k d low high.
    let further : before (get_or (x ∷ xs) (suc k + 1) d) (get_or (x ∷ xs) (suc k) d) ≡ false = up (suc k) d (omega arith) (omega arith) in
    ap (λ j. before (get_or xs j d) (get_or xs k d)) (add-one k) ∙ (rw add-one at further)

itself : (x : List ℕ) → bytes_eq x x ≡ true
itself x = (bytes_eq-Decides x x).1 refl

abbrev SameCounts : List (List ℕ) → List (List ℕ) → Type 0
SameCounts xs ys = (z : List ℕ) → count_by (bytes_eq z) xs ≡ count_by (bytes_eq z) ys

counted_first : (x : List ℕ) (xs : List (List ℕ)) → count_by (bytes_eq x) (x ∷ xs) ≡ 1 + count_by (bytes_eq x) xs
counted_first x xs =
    sum_by-cons (λ y. cond (bytes_eq x y) 1 0) x xs ∙ ap (λ n. n + count_by (bytes_eq x) xs) (cond-true (bytes_eq x x) 1 0 (itself x))

same_rest : (x y : List ℕ) (xs ys : List (List ℕ)) → x ≡ y → SameCounts (x ∷ xs) (y ∷ ys) → SameCounts xs ys
same_rest x y xs ys e same = λ z.
    let one : List ℕ → ℕ = λ w. cond (bytes_eq z w) 1 0 in
    omega (arith, same z, ap one e, sum_by-cons one x xs, sum_by-cons one y ys)

sorted_same : (xs ys : List (List ℕ)) → IsSortedBy before xs → IsSortedBy before ys → SameCounts xs ys → xs ≡ ys
sorted_same [] [] up up' same = refl
sorted_same [] (y ∷ ys) up up' same = absurd (omega (arith, same y, counted_first y ys))
sorted_same (x ∷ xs) [] up up' same = absurd (omega (arith, same x, counted_first x xs))
sorted_same (x ∷ xs) (y ∷ ys) up up' same =
    let e : x ≡ y = both_least x y
    (first_least y ys x up' (omega (arith, same x, counted_first x xs)))
    (first_least x xs y up (omega (arith, same y, counted_first y ys))) in
    let rest = sorted_same xs ys (rest_sorted x xs up) (rest_sorted y ys up') (same_rest x y xs ys e same) in
    ap (λ z. z ∷ xs) e ∙ ap (λ zs. y ∷ zs) rest

counts : (xs ys : List (List ℕ)) → IsPermutation xs ys → SameCounts xs ys
counts xs ys p = λ z. sym (sum_by-IsPermutation (λ w. cond (bytes_eq z w) 1 0) xs ys p)

-- lines are the same in some order exactly if they are the same once they are sorted
pub same_sorted : (xs ys us vs : List (List ℕ)) → IsPermutation xs us → IsPermutation ys vs → IsSortedBy before us → IsSortedBy before vs → (us ≡ vs) ↔ IsPermutation xs ys
same_sorted xs ys us vs p q up up' = (
  (λ e. IsPermutation-trans xs us ys p (subst (λ (zs : List (List ℕ)). IsPermutation zs ys) (sym e) (IsPermutation-sym ys vs q))),
  (λ r. sorted_same us vs up up' (counts us vs (IsPermutation-trans us ys vs (IsPermutation-trans us xs ys (IsPermutation-sym xs us p) r) q))),
)

-- lines that are pointed to are sorted as their bytes are
pub texts_sorted : (lines : List (Bor (List ℕ))) → IsSortedBy (λ x y. before x.now y.now) lines → IsSortedBy before (texts lines)
texts_sorted [] up = λ k d low high. absurd (omega arith)
texts_sorted (line ∷ lines) up = λ k d low high.
    let all : List (Bor (List ℕ)) = line ∷ lines in
    let inside : k + 1 < length all = omega (arith, length-map all (λ (l : Bor (List ℕ)). l.now)) in
    ap (λ z. before z (get_or (texts all) k d)) (get_or-map (λ l. l.now) all (k + 1) line d inside)
    ∙ ap (λ z. before (get_or all (k + 1) line).now z) (get_or-map (λ l. l.now) all k line d (omega arith))
    ∙ up k line low inside

-- the test of two slices compares the bytes
pub texts_tested : (xs ys : List (Bor (List ℕ))) → pointwise (λ x y. bytes_eq x.now y.now) xs ys ≡ pointwise bytes_eq (texts xs) (texts ys)
texts_tested [] [] = refl
texts_tested [] (y ∷ ys) = refl
texts_tested (x ∷ xs) [] = refl
texts_tested (x ∷ xs) (y ∷ ys) = ap (λ b. bytes_eq x.now y.now && b) (texts_tested xs ys)
