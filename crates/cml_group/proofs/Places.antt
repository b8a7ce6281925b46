-- The places of the scopes that fire.
use Rattle.std.proofs.Common.{◌≡◌, ℕ, zero, suc, ◌+◌, ◌<◌, ◌≤◌, Bool, true, false, nat_eq, if◌then◌else◌, cond, ◌≢◌}
use Rattle.std.proofs.Common.{List, [], ◌∷◌, ◌++◌, length, get_or, map, filter, slice_get, Some, refl, ◌∙◌, ap}
use Rattle.std.proofs.Common.{arith, append_assoc, length-append}
use Rattle.std.specs.Prelude.{◌==◌, count_by}
use Rattle.std.specs.List.Sorted.{IsStrictlyIncreasing}
use Rattle.std.proofs.lemmas.List.Sums.{sum_by-cons}
use Rattle.std.proofs.lemmas.Bool.Decides.{nat_tests}
use Rattle.cml_value.specs.Group.{PlainGroup, PlainScope, scopes, nacks_of, lies_outside}
use Rattle.cml_group.specs.Laws.{Holds, FiresAt}
use Rattle.cml_group.proofs.Lost.{lies_in}

-- the places of the scopes that pass a test, where the first scope has this place
abbrev places_from : ℕ → (PlainScope → Bool) → List PlainScope → List ℕ
places_from i p [] = []
places_from i p (s ∷ ss) = if p s then i ∷ places_from (i + 1) p ss else places_from (i + 1) p ss

low_step : (b : Bool) (i : ℕ) (rest : List ℕ) → ((k : ℕ) → k < length rest → i + 1 ≤ get_or rest k 0) →
    (k : ℕ) → k < length (if b then i ∷ rest else rest) → i ≤ get_or (if b then i ∷ rest else rest) k 0
low_step true i rest f zero h = omega arith
low_step true i rest f (suc k) h = omega (arith, f k (omega arith))
low_step false i rest f k h = omega (arith, f k h)

low : (i : ℕ) (p : PlainScope → Bool) (ss : List PlainScope) (k : ℕ) → k < length (places_from i p ss) → i ≤ get_or (places_from i p ss) k 0
low i p [] k h = absurd (omega arith)
low i p (s ∷ ss) k h = low_step (p s) i _ (low (i + 1) p ss) k h

rises_step : (b : Bool) (i : ℕ) (rest : List ℕ) → ((k : ℕ) → k < length rest → i + 1 ≤ get_or rest k 0) → IsStrictlyIncreasing rest → IsStrictlyIncreasing (if b then i ∷ rest else rest)
rises_step true i rest f g zero h = omega (arith, f 0 (omega arith))
rises_step true i rest f g (suc k) h = let e : suc k + 1 ≡ suc (k + 1) = omega arith in rw e (g k (omega arith))
rises_step false i rest f g k h = g k h

rises : (i : ℕ) (p : PlainScope → Bool) (ss : List PlainScope) → IsStrictlyIncreasing (places_from i p ss)
rises i p [] = λ k h. absurd (omega arith)
rises i p (s ∷ ss) = rises_step (p s) i _ (low (i + 1) p ss) (rises (i + 1) p ss)

abbrev count : ℕ → List ℕ → ℕ
count m js = count_by (λ j. j == m) js

count-cons : (i m : ℕ) (js : List ℕ) → count m (i ∷ js) ≡ cond (nat_eq i m) 1 0 + count m js
count-cons i m js = sum_by-cons (λ j. cond (j == m) 1 0) i js

skipped : (b : Bool) (i m c : ℕ) (rest : List ℕ) → nat_eq i m ≡ false → count m rest ≡ c → count m (if b then i ∷ rest else rest) ≡ c
skipped true i m c rest ne e = let f = count-cons i m rest in grind arith
skipped false i m c rest ne e = e

differs : (i m : ℕ) → i ≢ m → nat_eq i m ≡ false
differs i m h = grind (arith, nat_tests)

none_below : (i m : ℕ) (p : PlainScope → Bool) (ss : List PlainScope) → m < i → count m (places_from i p ss) ≡ 0
none_below i m p [] h = refl
none_below i m p (s ∷ ss) h = skipped (p s) i m 0 _ (differs i m (omega arith)) (none_below (i + 1) m p ss (omega arith))

found : (b : Bool) (i : ℕ) (rest : List ℕ) → nat_eq i i ≡ true → count i rest ≡ 0 → count i (if b then i ∷ rest else rest) ≡ (if b then 1 else 0)
found true i rest same e = let f = count-cons i i rest in grind arith
found false i rest same e = e

same_place : (i : ℕ) → nat_eq i i ≡ true
same_place i = grind (arith, nat_tests)

-- a scope's place is there once where the scope passes, and else not at all
count_at : (i m : ℕ) (p : PlainScope → Bool) (ss : List PlainScope) (s : PlainScope) → slice_get ss m ≡ Some s → count (i + m) (places_from i p ss) ≡ (if p s then 1 else 0)
count_at i m p [] s h = cc
count_at i zero p (t ∷ ss) s h =
    let e : t ≡ s = cc in
    let z : i + 0 ≡ i = omega arith in
    rw (z, ← e) (found (p t) i _ (same_place i) (none_below (i + 1) i p ss (omega arith)))
count_at i (suc m) p (t ∷ ss) s h =
    let z : i + suc m ≡ i + 1 + m = omega arith in
    rw z (skipped (p t) i (i + 1 + m) _ _ (differs i (i + 1 + m) (omega arith)) (count_at (i + 1) m p ss s h))

nacks_step : (b : Bool) (ks js : List ℕ) (k i : ℕ) (all : List ℕ) → slice_get all i ≡ Some k → map Some ks ≡ map (slice_get all) js →
    map Some (if b then k ∷ ks else ks) ≡ map (slice_get all) (if b then i ∷ js else js)
nacks_step true ks js k i all h e = cc
nacks_step false ks js k i all h e = e

nacks_if : (b : Bool) (s : PlainScope) (ss : List PlainScope) → nacks_of (if b then s ∷ ss else ss) ≡ (if b then s.nack ∷ nacks_of ss else nacks_of ss)
nacks_if true s ss = refl
nacks_if false s ss = refl

get_end : (us vs : List ℕ) (k i : ℕ) → length us ≡ i → slice_get (us ++ k ∷ vs) i ≡ Some k
get_end [] vs k zero h = refl
get_end [] vs k (suc i) h = absurd (omega arith)
get_end (u ∷ us) vs k zero h = absurd (omega arith)
get_end (u ∷ us) vs k (suc i) h = get_end us vs k i (omega arith)

-- the nacks of the scopes that pass stand at their places, here after the nacks of other scopes
nacks_at : (us : List ℕ) (i : ℕ) (p : PlainScope → Bool) (ss : List PlainScope) → length us ≡ i → map Some (nacks_of (filter p ss)) ≡ map (slice_get (us ++ nacks_of ss)) (places_from i p ss)
nacks_at us i p [] h = refl
nacks_at us i p (s ∷ ss) h =
    let next = nacks_at (us ++ s.nack ∷ []) (i + 1) p ss (omega (arith, length-append us (s.nack ∷ []))) in
    let moved : us ++ s.nack ∷ [] ++ nacks_of ss ≡ us ++ s.nack ∷ nacks_of ss = append_assoc us (s.nack ∷ []) (nacks_of ss) in
    ap (map Some) (nacks_if (p s) s (filter p ss))
    ∙ nacks_step (p s) _ _ s.nack i _ (get_end us (nacks_of ss) s.nack i h) (next ∙ ap (λ l. map (slice_get l) (places_from (i + 1) p ss)) moved)

holds_or : (b : Bool) (P : Type 0) → (b ≡ false → P) → ¬ P → b ≡ true
holds_or true P f g = refl
holds_or false P f g = absurd (g (f refl))

inside : (n : ℕ) (s : PlainScope) → lies_outside n s ≡ false → Holds s n
inside n s h = (grind (arith, nat_tests), grind (arith, nat_tests))

pub fires_at : (g : PlainGroup) (n : ℕ) → FiresAt g n (places_from 0 (lies_outside n) (scopes g))
fires_at g n =
    let p = lies_outside n in
    let at : (i : ℕ) (s : PlainScope) → slice_get (scopes g) i ≡ Some s → count i (places_from 0 p (scopes g)) ≡ (if p s then 1 else 0) =
    λ i s h. let z : 0 + i ≡ i = omega arith in rw z at (count_at 0 i p (scopes g) s h) in
    record {
      nacks_are = nacks_at [] 0 p (scopes g) refl;
      in_order = rises 0 p (scopes g);
      never = λ i s h held. at i s h ∙ ap (λ b. if b then 1 else 0) (lies_in n s held.0 held.1);
      once = λ i s h out. at i s h ∙ ap (λ b. if b then 1 else 0) (holds_or (p s) (Holds s n) (inside n s) out);
    }

pub other_scopes : (g : PlainGroup) (n : ℕ) → (places : List ℕ) × FiresAt g n places
other_scopes g n = (places_from 0 (lies_outside n) (scopes g), fires_at g n)
