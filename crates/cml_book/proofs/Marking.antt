-- Marks find whether a number is named twice.
use Rattle.std.proofs.Common.{◌≡◌, ◌≢◌, ℕ, ◌<◌, ◌≤◌, zero, suc, Bool, true, false, not, ◌&&◌, nat_eq, nat_lt, List, [], ◌∷◌, length, refl, ap, ◌∙◌, arith, Some, length-set}
use Rattle.std.specs.Prelude.{slice_get, slice_set}
use Rattle.std.specs.List.{list_all}
use Rattle.std.proofs.lemmas.Bool.Decides.{nat_tests}
use Rattle.cml_book.specs.Sync.{times_named, with_each}
use Rattle.cml_book.specs.NackMarks.{is_that, was_each_other, AreClear}
use Rattle.cml_book.proofs.NackLemmas.{times-named, times-other, get-set_same, get-set_other, with_each-other, named_passes}

abbrev marked : List Bool → ℕ → Bool
marked marks k = is_that true (slice_get marks k)

-- two tests that say the same of each number that is named
all_agree : (p q : ℕ → Bool) (ks : List ℕ) → ((k : ℕ) → 1 ≤ times_named k ks → p k ≡ q k) → list_all p ks ≡ list_all q ks
all_agree p q [] same = refl
all_agree p q (k ∷ ks) same =
    let one : nat_eq k k ≡ true = grind (arith, nat_tests) in
    let named = times-named k k ks one in
    rw (same k (omega arith)) (ap (λ b. q k && b) (all_agree p q ks (λ j n. same j (later j n (nat_eq k j) refl))))
  where
    later : (j : ℕ) → 1 ≤ times_named j ks → (b : Bool) → nat_eq k j ≡ b → 1 ≤ times_named j (k ∷ ks)
    later j n true e = let a = times-named k j ks e in omega arith
    later j n false e = let a = times-other k j ks e in omega arith

in_range : (marks : List Bool) (k : ℕ) → k < length marks → (b : Bool) × (slice_get marks k ≡ Some b)
in_range [] k h = absurd (omega arith)
in_range (m ∷ marks) zero h = (m, refl)
in_range (m ∷ marks) (suc k) h = in_range marks k (omega arith)

both : (a b : Bool) → a && b ≡ true → (a ≡ true) × (b ≡ true)
both true true e = (refl, refl)
both true false e = cc
both false b e = cc

and_false : (b : Bool) → b && false ≡ false
and_false true = refl
and_false false = refl

-- what is not passed by a number that is named is not passed by all
not_all : (p : ℕ → Bool) (ks : List ℕ) (k : ℕ) → 1 ≤ times_named k ks → p k ≡ false → list_all p ks ≡ false
not_all p ks k named fails = at (list_all p ks) refl
  where
    at : (b : Bool) → list_all p ks ≡ b → b ≡ false
    at true e = let passes = named_passes p ks k e named in cc
    at false e = refl

-- no number was marked before its turn exactly where none was marked at first, and each is named once
unmarked_is : (ks : List ℕ) (marks : List Bool) → list_all (λ k. nat_lt k (length marks)) ks ≡ true
    → was_each_other true ks marks ≡ list_all (λ k. not (marked marks k) && nat_eq (times_named k ks) 1) ks
unmarked_is [] marks h = refl
unmarked_is (k ∷ ks) marks h =
    let two = both (nat_lt k (length marks)) (list_all (λ j. nat_lt j (length marks)) ks) h in
    let rest : list_all (λ j. nat_lt j (length (slice_set marks k true))) ks ≡ true = rw (length-set marks k true) two.1 in
    ap (λ b. not (marked marks k) && b) (unmarked_is ks (slice_set marks k true) rest) ∙ at two.0 (nat_lt 0 (times_named k ks)) refl
  where
    one : nat_eq k k ≡ true
    one = grind (arith, nat_tests)

    now : k < length marks → marked (slice_set marks k true) k ≡ true
    now h = let there = in_range marks k h in ap (is_that true) (get-set_same marks k true there.0 there.1)

    at : nat_lt k (length marks) ≡ true → (b : Bool) → nat_lt 0 (times_named k ks) ≡ b
        → not (marked marks k) && list_all (λ j. not (marked (slice_set marks k true) j) && nat_eq (times_named j ks) 1) ks
        ≡ (not (marked marks k) && nat_eq (times_named k (k ∷ ks)) 1) && list_all (λ j. not (marked marks j) && nat_eq (times_named j (k ∷ ks)) 1) ks
    at inside true e =
        let more : 1 ≤ times_named k ks = grind (arith, nat_tests) in
        let twice = times-named k k ks one in
        let not_one : nat_eq (times_named k (k ∷ ks)) 1 ≡ false = grind (arith, nat_tests) in
        let within : k < length marks = grind (arith, nat_tests) in
        let none : list_all (λ j. not (marked (slice_set marks k true) j) && nat_eq (times_named j ks) 1) ks ≡ false =
        not_all (λ j. not (marked (slice_set marks k true) j) && nat_eq (times_named j ks) 1) ks k more (ap (λ b. not b && nat_eq (times_named k ks) 1) (now within)) in
        rw (none, not_one, and_false (not (marked marks k))) refl
    at inside false e =
        let none : times_named k ks ≡ 0 = grind (arith, nat_tests) in
        let first = times-named k k ks one in
        let once : nat_eq (times_named k (k ∷ ks)) 1 ≡ true = grind (arith, nat_tests) in
        let same = all_agree (λ j. not (marked (slice_set marks k true) j) && nat_eq (times_named j ks) 1) (λ j. not (marked marks j) && nat_eq (times_named j (k ∷ ks)) 1) ks
        (λ j named. other j named none (nat_eq k j) refl) in
        rw (same, once) (and_true (not (marked marks k)) (list_all (λ j. not (marked marks j) && nat_eq (times_named j (k ∷ ks)) 1) ks))
      where
        and_true : (a b : Bool) → a && b ≡ a && true && b
        and_true true b = refl
        and_true false b = refl

        other : (j : ℕ) → 1 ≤ times_named j ks → times_named k ks ≡ 0 → (b : Bool) → nat_eq k j ≡ b
            → not (marked (slice_set marks k true) j) && nat_eq (times_named j ks) 1 ≡ not (marked marks j) && nat_eq (times_named j (k ∷ ks)) 1
        other j named none true e = let same : k ≡ j = grind (arith, nat_tests) in let n : times_named j ks ≡ 0 = rw (← same) none in absurd (omega arith)
        other j named none false e =
            let differ : k ≢ j = grind (arith, nat_tests) in
            rw (get-set_other marks k j true differ, times-other k j ks e) refl

-- where no mark stands, the marks find whether each is named once
pub each_once : (ks : List ℕ) (marks : List Bool) → AreClear marks → list_all (λ k. nat_lt k (length marks)) ks ≡ true
    → was_each_other true ks marks ≡ list_all (λ k. nat_eq (times_named k ks) 1) ks
each_once ks marks clear h =
    unmarked_is ks marks h
    ∙ all_agree (λ k. not (marked marks k) && nat_eq (times_named k ks) 1) (λ k. nat_eq (times_named k ks) 1) ks (λ k n. ap (λ b. not b && nat_eq (times_named k ks) 1) (clear.each k))

set_clear : (marks : List Bool) (k : ℕ) → marked (slice_set marks k false) k ≡ false
set_clear [] k = refl
set_clear (m ∷ marks) zero = refl
set_clear (m ∷ marks) (suc k) = set_clear marks k

cleared : (ks : List ℕ) (marks : List Bool) (k : ℕ) → 1 ≤ times_named k ks → marked (with_each ks false marks) k ≡ false
cleared [] marks k h = absurd (omega arith)
cleared (j ∷ ks) marks k h = at (nat_lt 0 (times_named k ks)) (nat_eq j k) refl refl (cleared ks (slice_set marks j false) k)
  where
    at : (b c : Bool) → nat_lt 0 (times_named k ks) ≡ b → nat_eq j k ≡ c → (1 ≤ times_named k ks → marked (with_each ks false (slice_set marks j false)) k ≡ false)
        → marked (with_each ks false (slice_set marks j false)) k ≡ false
    at true c e f ih = let more : 1 ≤ times_named k ks = grind (arith, nat_tests) in ih more
    at false true e f ih =
        let same : j ≡ k = grind (arith, nat_tests) in
        let none : times_named k ks ≡ 0 = grind (arith, nat_tests) in
        ap (is_that true) (with_each-other ks false (slice_set marks j false) k none) ∙ rw same (set_clear marks k)
    at false false e f ih = let none = times-other j k ks f in let few : times_named k ks ≡ 0 = grind (arith, nat_tests) in absurd (omega arith)

-- no mark stands once those that were set are taken away
pub clear_again : (ks : List ℕ) (marks : List Bool) → AreClear marks → AreClear (with_each ks false (with_each ks true marks))
clear_again ks marks clear = record { each = λ k. at k (nat_lt 0 (times_named k ks)) refl }
  where
    at : (k : ℕ) (b : Bool) → nat_lt 0 (times_named k ks) ≡ b → marked (with_each ks false (with_each ks true marks)) k ≡ false
    at k true e = let named : 1 ≤ times_named k ks = grind (arith, nat_tests) in cleared ks (with_each ks true marks) k named
    at k false e =
        let none : times_named k ks ≡ 0 = grind (arith, nat_tests) in
        ap (is_that true) (with_each-other ks false (with_each ks true marks) k none ∙ with_each-other ks true marks k none) ∙ clear.each k
