-- What stands before the first element that passes a test, and how many pass.
use Rattle.std.proofs.Common.{◌≡◌, ℕ, ◌+◌, Bool, true, false, not, cond, ◌||◌, List, [], ◌∷◌, ◌++◌, refl, ap, sym, ◌∙◌, arith, ltb, zero-add}
use Rattle.std.specs.List.{list_any, before_first, count_by}
use Rattle.std.proofs.lemmas.Bool.{or_parts, cond-false, lt-ltb}
use Rattle.std.proofs.lemmas.List.Sums.{sum_by-cons, take_while-cons}

turned : {A : Type 0} (b : Bool) (u v : A) → cond (not b) u v ≡ cond b v u
turned true u v = refl
turned false u v = refl

-- of a list with one element more in front
pub before_cons : {A : Type 0} (p : A → Bool) (x : A) (xs : List A) → before_first p (x ∷ xs) ≡ cond (p x) [] (x ∷ before_first p xs)
before_cons p x xs = take_while-cons (λ y. not (p y)) x xs ∙ turned (p x) (x ∷ before_first p xs) []

one_more : {A : Type 0} (b a : Bool) (x : A) (front front' all whole : List A) → front' ≡ cond b [] (x ∷ front) → all ≡ cond a front whole →
    cond b [] (x ∷ all) ≡ cond (b || a) front' (x ∷ whole)
one_more true a x front front' all whole e g = sym e
one_more false true x front front' all whole e g = ap (λ ys. x ∷ ys) g ∙ sym e
one_more false false x front front' all whole e g = ap (λ ys. x ∷ ys) g

-- of a list and what stands behind it
pub before_append : {A : Type 0} (p : A → Bool) (xs ys : List A) → before_first p (xs ++ ys) ≡ cond (list_any p xs) (before_first p xs) (xs ++ before_first p ys)
before_append p [] ys = refl
before_append p (x ∷ xs) ys =
    before_cons p x (xs ++ ys)
    ∙ one_more (p x) (list_any p xs) x (before_first p xs) (before_first p (x ∷ xs)) (before_first p (xs ++ ys)) (xs ++ before_first p ys)
    (before_cons p x xs) (before_append p xs ys)

-- where none passes, all stand before
pub before_all : {A : Type 0} (p : A → Bool) (xs : List A) → list_any p xs ≡ false → before_first p xs ≡ xs
before_all p [] none = refl
before_all p (x ∷ xs) none =
    let parts = or_parts (p x) (list_any p xs) none in
    before_cons p x xs ∙ cond-false (p x) [] (x ∷ before_first p xs) parts.0 ∙ ap (λ ys. x ∷ ys) (before_all p xs parts.1)

counted : (b : Bool) (n : ℕ) → ltb 0 (cond b 1 0 + n) ≡ (b || ltb 0 n)
counted true n = lt-ltb 0 (1 + n) (omega arith)
counted false n = ap (ltb 0) (zero-add n)

-- some pass where the count is not 0
pub count_some : {A : Type 0} (p : A → Bool) (xs : List A) → ltb 0 (count_by p xs) ≡ list_any p xs
count_some p [] = refl
count_some p (x ∷ xs) = ap (ltb 0) (sum_by-cons (λ y. cond (p y) 1 0) x xs) ∙ counted (p x) (count_by p xs) ∙ ap (λ a. p x || a) (count_some p xs)
