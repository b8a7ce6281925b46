-- Sums of counts.
use Rattle.std.proofs.Common.{◌≡◌, ◌≢◌, ℕ, zero, suc, ◌+◌, ◌-◌, ◌^◌, ◌<◌, ◌≤◌, Bool, true, false, ◌||◌, nat_eq, List, [], ◌∷◌, ◌++◌, map, drop, length, nat_lt, refl, ap, sym, subst, ◌∙◌, arith}
use Rattle.std.specs.Prelude.{◌%◌, slice_set}
use Rattle.std.specs.List.{list_any, sum_by, IsDistinct, AllByRecursion}
use Rattle.std.proofs.lemmas.Bool.Decides.{nat_tests}
use Rattle.std.proofs.lemmas.List.{get_or-set_same, get_or-set_other}
use Rattle.std.proofs.lemmas.List.Sums.{sum_by-cons, sum_by-set}
use Rattle.std.proofs.lemmas.Map.Keys.{IsDistinct-head, IsDistinct-tail}
use Rattle.cml_objects.specs.declared.pairing.PairedId.{PairedId}
use Rattle.cml_index.specs.HeadCounts.{count_in, all_counts}
use Rattle.cml_index.proofs.Counted.{total}
use Rattle.cml_index.proofs.Objects.{channel}

pub one_number : (a b : ℕ) → nat_eq a b ≡ true → a ≡ b
one_number a b e = grind (arith, nat_tests)

pub apart_number : (a b : ℕ) → nat_eq a b ≡ false → b ≢ a
apart_number a b e f = grind (arith, nat_tests)

-- counts that are all 0
no_counts : (counts : List ℕ) → ((n : ℕ) → count_in counts n ≡ 0) → all_counts counts ≡ 0
no_counts [] none = refl
no_counts (c ∷ counts) none =
    let head : c ≡ 0 = none 0 in
    let rest = no_counts counts (λ n. none (suc n)) in
    let whole : all_counts (c ∷ counts) ≡ c + all_counts counts = sum_by-cons (λ n. n) c counts in
    omega (arith, head, rest, whole)

beyond : (counts : List ℕ) (n : ℕ) → length counts ≤ n → count_in counts n ≡ 0
beyond [] n h = refl
beyond (c ∷ counts) zero h = absurd (omega arith)
beyond (c ∷ counts) (suc n) h = beyond counts n (omega arith)

same_sum : (f g : ℕ → ℕ) (xs : List ℕ) → ((n : ℕ) → list_any (λ m. nat_eq n m) xs ≡ true → f n ≡ g n) → sum_by f xs ≡ sum_by g xs
same_sum f g [] same = refl
same_sum f g (x ∷ xs) same =
    let a : sum_by f (x ∷ xs) ≡ f x + sum_by f xs = sum_by-cons f x xs in
    let b : sum_by g (x ∷ xs) ≡ g x + sum_by g xs = sum_by-cons g x xs in
    let here = same x (ap (λ b. b || list_any (λ m. nat_eq x m) xs) (self_ x)) in
    let rest = same_sum f g xs (λ n e. same n (ap (λ b. nat_eq n x || b) e ∙ or_true (nat_eq n x))) in
    omega (arith, a, b, here, rest)
  where
    self_ : (a : ℕ) → nat_eq a a ≡ true
    self_ a = grind (arith, nat_tests)

    or_true : (b : Bool) → b || true ≡ true
    or_true true = refl
    or_true false = refl

not_in : (x n : ℕ) (xs : List ℕ) → AllByRecursion (λ y. nat_eq x y ≡ false) xs → list_any (λ m. nat_eq n m) xs ≡ true → n ≢ x
not_in x n [] all e f = cc
not_in x n (y ∷ xs) all e f = at (nat_eq n y) refl e (λ h. not_in x n xs all.1 h f)
  where
    at : (b : Bool) → nat_eq n y ≡ b → b || list_any (λ m. nat_eq n m) xs ≡ true → (list_any (λ m. nat_eq n m) xs ≡ true → ⊥) → ⊥
    at true g h rest = apart_number x y all.0 (sym (one_number n y g) ∙ f)
    at false g h rest = rest h

-- where all others are 0, the sum of all counts is that of those that are listed
pub listed_sum : (xs counts : List ℕ) → IsDistinct (λ n m. nat_eq n m) xs → ((n : ℕ) → list_any (λ m. nat_eq n m) xs ≡ false → count_in counts n ≡ 0) → all_counts counts ≡ sum_by (count_in counts) xs
listed_sum [] counts apart none = no_counts counts (λ n. none n refl)
listed_sum (x ∷ xs) counts apart none = within_or (λ cs zeros. listed_sum xs cs tail_ zeros) (nat_lt x (length counts)) refl
  where
    head : AllByRecursion (λ y. nat_eq x y ≡ false) xs
    head = IsDistinct-head (λ n m. nat_eq n m) x xs apart

    tail_ : IsDistinct (λ n m. nat_eq n m) xs
    tail_ = IsDistinct-tail (λ n m. nat_eq n m) x xs apart

    whole : sum_by (count_in counts) (x ∷ xs) ≡ count_in counts x + sum_by (count_in counts) xs
    whole = sum_by-cons (count_in counts) x xs

    low : (a b : ℕ) → nat_lt a b ≡ true → a < b
    low a b e = grind (arith, nat_tests)

    high : (a b : ℕ) → nat_lt a b ≡ false → b ≤ a
    high a b e = grind (arith, nat_tests)

    inside : ((cs : List ℕ) → ((n : ℕ) → list_any (λ m. nat_eq n m) xs ≡ false → count_in cs n ≡ 0) → all_counts cs ≡ sum_by (count_in cs) xs)
        → x < length counts → all_counts counts ≡ sum_by (count_in counts) (x ∷ xs)
    inside more lt =
        let less = slice_set counts x 0 in
        let took : all_counts less + count_in counts x ≡ all_counts counts + 0 = sum_by-set (λ n. n) counts x 0 0 lt in
        let rest : all_counts less ≡ sum_by (count_in less) xs = more less (λ n e. zeroed n (nat_eq n x) refl e) in
        let same : sum_by (count_in less) xs ≡ sum_by (count_in counts) xs = same_sum (count_in less) (count_in counts) xs (λ n e. get_or-set_other counts x n 0 0 (not_in x n xs head e)) in
        omega (arith, took, rest, same, whole)
      where
        zeroed : (n : ℕ) (b : Bool) → nat_eq n x ≡ b → list_any (λ m. nat_eq n m) xs ≡ false → count_in (slice_set counts x 0) n ≡ 0
        zeroed n true e f = subst (λ j. count_in (slice_set counts x 0) j ≡ 0) (sym (one_number n x e)) (get_or-set_same counts x 0 0 lt)
        zeroed n false e f = get_or-set_other counts x n 0 0 (λ is. apart_number n x e (sym is)) ∙ none n (ap (λ b. b || list_any (λ m. nat_eq n m) xs) e ∙ f)

    outside : ((cs : List ℕ) → ((n : ℕ) → list_any (λ m. nat_eq n m) xs ≡ false → count_in cs n ≡ 0) → all_counts cs ≡ sum_by (count_in cs) xs)
        → length counts ≤ x → all_counts counts ≡ sum_by (count_in counts) (x ∷ xs)
    outside more h =
        let zero_ = beyond counts x h in
        let rest : all_counts counts ≡ sum_by (count_in counts) xs = more counts (λ n e. missed n (nat_eq n x) refl e) in
        omega (arith, zero_, rest, whole)
      where
        missed : (n : ℕ) (b : Bool) → nat_eq n x ≡ b → list_any (λ m. nat_eq n m) xs ≡ false → count_in counts n ≡ 0
        missed n true e f = subst (λ j. count_in counts j ≡ 0) (sym (one_number n x e)) (beyond counts x h)
        missed n false e f = none n (ap (λ b. b || list_any (λ m. nat_eq n m) xs) e ∙ f)

    within_or : ((cs : List ℕ) → ((n : ℕ) → list_any (λ m. nat_eq n m) xs ≡ false → count_in cs n ≡ 0) → all_counts cs ≡ sum_by (count_in cs) xs)
        → (b : Bool) → nat_lt x (length counts) ≡ b → all_counts counts ≡ sum_by (count_in counts) (x ∷ xs)
    within_or more true e = inside more (low x (length counts) e)
    within_or more false e = outside more (high x (length counts) e)

-- a sum over the channels
pub channel_total : (f : ℕ → ℕ) (g : PairedId → ℕ) (xs : List ℕ) → ((m : ℕ) → list_any (λ y. nat_eq m y) xs ≡ true → g (channel m) ≡ f m) → total g (map channel xs) ≡ sum_by f xs
channel_total f g [] same = refl
channel_total f g (x ∷ xs) same =
    let a : sum_by f (x ∷ xs) ≡ f x + sum_by f xs = sum_by-cons f x xs in
    let here = same x (ap (λ b. b || list_any (λ m. nat_eq x m) xs) (self_ x)) in
    let rest = channel_total f g xs (λ n e. same n (ap (λ b. nat_eq n x || b) e ∙ or_true (nat_eq n x))) in
    omega (arith, a, here, rest)
  where
    self_ : (a : ℕ) → nat_eq a a ≡ true
    self_ a = grind (arith, nat_tests)

    or_true : (b : Bool) → b || true ≡ true
    or_true true = refl
    or_true false = refl

pub total-append : (f : PairedId → ℕ) (ns ms : List PairedId) → total f (ns ++ ms) ≡ total f ns + total f ms
total-append f [] ms = omega arith
total-append f (n ∷ ns) ms = let rest = total-append f ns ms in omega (arith, rest)

pub drop_first : (xs : List ℕ) (ms : List PairedId) → drop (length xs) (map channel xs ++ ms) ≡ ms
drop_first [] ms = refl
drop_first (x ∷ xs) ms = drop_first xs ms

-- what is left of a list has no greater sum
pub total-drop : (f : PairedId → ℕ) (i : ℕ) (ns : List PairedId) → total f (drop i ns) ≤ total f ns
total-drop f zero ns = omega arith
total-drop f (suc i) [] = omega arith
total-drop f (suc i) (n ∷ ns) = let rest = total-drop f i ns in omega (arith, rest)

-- a number that is in is not one that is not
pub other_number : (p : ℕ → Bool) (m n : ℕ) → p m ≡ true → p n ≡ false → n ≢ m
other_number p m n on off is = let no_ : true ≡ false = sym on ∙ ap p (sym is) ∙ off in cc
