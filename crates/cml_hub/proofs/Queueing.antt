-- The order of the queue.
use Rattle.std.proofs.Common.{◌≡◌, ℕ, zero, suc, ◌+◌, ◌<◌, Bool, true, false, nat_eq, List, [], ◌∷◌, ◌++◌, length, map, take, drop, refl, arith, Some, sym, ap, subst, ◌∙◌, slice_index_or, add-zero}
use Rattle.std.specs.Prelude.{slice_get, Option, OnSome, IsSome}
use Rattle.std.specs.List.{remove}
use Rattle.std.proofs.lemmas.Bool.Decides.{nat_tests}
use Rattle.cml_value.specs.declared.number.Tid.{Tid}
use Rattle.cml_hub.specs.declared.ready_queue.Mark.{Mark}
use Rattle.cml_hub.specs.declared.ready_queue.Mark.TheVariants.{Ready, Out, NotRunning}
use Rattle.cml_hub.specs.ReadyQueue.{is_out, is_at, count_of, left_by, those_out}
use Rattle.cml_hub.proofs.MarkLemmas.{at_same, some_then}

other_is : (t n : ℕ) (b : Bool) → nat_eq n t ≡ b → is_at t n ≡ 0 → b ≡ false
other_is t n false e h = refl
other_is t n true e h = let same : n ≡ t = grind (arith, nat_tests) in absurd (omega (arith, at_same t, ap (is_at t) same, h))

left_step : (t : ℕ) (x : Tid) (xs : List Tid) → is_at t x.0 ≡ 0 → left_by t (x ∷ xs) ≡ x ∷ left_by t xs
left_step t x xs h = rw (other_is t x.0 (nat_eq x.0 t) refl h) refl

-- who does not stand in the queue can't leave it
pub left_none : (t : ℕ) (q : List Tid) → count_of t q ≡ 0 → left_by t q ≡ q
left_none t [] h = refl
left_none t (x ∷ xs) h = left_step t x xs (omega (arith, h)) ∙ ap (λ ys. x ∷ ys) (left_none t xs (omega (arith, h)))

-- the first one leaves
pub left_first : (x : Tid) (xs : List Tid) → left_by x.0 (x ∷ xs) ≡ xs
left_first x xs = let same : nat_eq x.0 x.0 ≡ true = grind (arith, nat_tests) in rw same refl

pub leaves_first : (x : Tid) (q left : List Tid) (t : ℕ) → Some x ≡ slice_get q 0 → t ≡ x.0 → left ≡ left_by x.0 q → q ≡ record { 0 = t } ∷ left
leaves_first x [] left t first e l = cc
leaves_first x (y ∷ q) left t first e l =
    let is : x ≡ y = cc in
    let rest : left ≡ q = l ∙ ap (λ (z : Tid). left_by z.0 (y ∷ q)) is ∙ left_first y q in
    rw (e, is, rest) refl

left_at : (t : ℕ) (q : List Tid) (i : ℕ) (y : Tid) → i < length q → y ≡ slice_index_or q i y → nat_eq y.0 t ≡ true → count_of t (take i q) ≡ 0 → remove q i ≡ left_by t q
left_at t [] i y lt e s h = absurd (omega arith)
left_at t (x ∷ xs) zero y lt e s h = let same : nat_eq x.0 t ≡ true = subst (λ (z : Tid). nat_eq z.0 t ≡ true) e s in rw same refl
left_at t (x ∷ xs) (suc i) y lt e s h = ap (λ ys. x ∷ ys) (left_at t xs i y (omega arith) e s (omega (arith, h))) ∙ sym (left_step t x xs (omega (arith, h)))

pub first_left : (x : Tid) (q new : List Tid) (y : Tid) (b : Bool) → new ≡ drop 1 q → 0 < length q → y ≡ slice_index_or q 0 y → b ≡ nat_eq y.0 x.0 → b ≡ true
    → new ≡ left_by x.0 q
first_left x [] new y b gone lt at e found = absurd (omega arith)
first_left x (z ∷ q) new y b gone lt at e found = gone ∙ left_at x.0 (z ∷ q) 0 y lt at (sym e ∙ found) refl

pub unqueued_left : (x : Tid) (old q new : List Tid) (i : ℕ) (y : Tid) (r : Option Tid) (b : Bool) → OnSome r (new ≡ remove q i) → IsSome r → q ≡ old → i < length q → y ≡ slice_index_or q i y
    → b ≡ nat_eq y.0 x.0 → b ≡ true → count_of x.0 (take i q) ≡ 0 → new ≡ left_by x.0 old
unqueued_left x old q new i y r b gone is same lt at e found passed =
    some_then r gone is ∙ (left_at x.0 q i y lt at (sym e ∙ found) passed ∙ ap (left_by x.0) same)

those_on : (k n : ℕ) (xs ys : List Tid) → xs ≡ ys ++ record { 0 = suc k + n } ∷ [] → xs ≡ ys ++ record { 0 = k + suc n } ∷ []
those_on k n xs ys e = let same : suc k + n ≡ k + suc n = omega arith in subst (λ (j : ℕ). xs ≡ ys ++ record { 0 = j } ∷ []) same e

-- one more that was looked at: it is out, or not
pub those_out_more : (k n : ℕ) (ms : List Mark) → slice_get ms n ≡ Some Out → those_out k (map is_out (take (suc n) ms)) ≡ those_out k (map is_out (take n ms)) ++ record { 0 = k + n } ∷ []
those_out_more k n [] h = cc
those_out_more k zero (m ∷ ms) h = let e : m ≡ Out = cc in rw (e, add-zero k) refl
those_out_more k (suc n) (Ready ∷ ms) h = those_on k n (those_out (suc k) (map is_out (take (suc n) ms))) (those_out (suc k) (map is_out (take n ms))) (those_out_more (suc k) n ms h)
those_out_more k (suc n) (Out ∷ ms) h = ap (λ xs. record { 0 = k } ∷ xs)
    (those_on k n (those_out (suc k) (map is_out (take (suc n) ms))) (those_out (suc k) (map is_out (take n ms)))
    (those_out_more (suc k) n ms h))
those_out_more k (suc n) (NotRunning ∷ ms) h = those_on k n (those_out (suc k) (map is_out (take (suc n) ms))) (those_out (suc k) (map is_out (take n ms))) (those_out_more (suc k) n ms h)

pub those_same : (k n : ℕ) (ms : List Mark) (m : Mark) → slice_get ms n ≡ Some m → is_out m ≡ false → those_out k (map is_out (take (suc n) ms)) ≡ those_out k (map is_out (take n ms))
those_same k n [] m h e = cc
those_same k zero (x ∷ ms) m h e = let same : x ≡ m = cc in rw (same, e) refl
those_same k (suc n) (Ready ∷ ms) m h e = those_same (suc k) n ms m h e
those_same k (suc n) (Out ∷ ms) m h e = ap (λ xs. record { 0 = k } ∷ xs) (those_same (suc k) n ms m h e)
those_same k (suc n) (NotRunning ∷ ms) m h e = those_same (suc k) n ms m h e
