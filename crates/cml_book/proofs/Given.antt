-- An object that gave and is as it was.
use Rattle.std.proofs.Common.{◌≡◌, ℕ, List, [], ◌∷◌, map, refl, ap, zero, suc, Option, Some, None}
use Rattle.std.specs.Prelude.{slice_get, slice_set}
use Rattle.std.specs.Option.{option_map_or}
use Rattle.cml_value.specs.Value.{PlainValue}
use Rattle.cml_objects.specs.Registered.{given_at}
use Rattle.cml_scan.specs.World.{PlainWorld}

pub map_same : {X : Type 0} (xs : List X) → map (λ x. x) xs ≡ xs
map_same [] = refl
map_same (x ∷ xs) = ap (λ ys. x ∷ ys) (map_same xs)

pub set_again : {X : Type 0} (xs : List X) (i : ℕ) (y : X) → slice_get xs i ≡ Some y → slice_set xs i y ≡ xs
set_again [] i y h = refl
set_again (x ∷ xs) zero y h = let same : x ≡ y = cc in rw same refl
set_again (x ∷ xs) (suc i) y h = ap (λ ys. x ∷ ys) (set_again xs i y h)

pub given_same : {X : Type 0} (xs : List X) (i : ℕ) → given_at (λ x. x) xs i ≡ xs
given_same xs i = at (slice_get xs i) refl
  where
    at : (o : Option _) → slice_get xs i ≡ o → option_map_or (λ s. slice_set xs i s) o xs ≡ xs
    at None e = refl
    at (Some y) e = set_again xs i y e

pub set_ivars : (w : PlainWorld) (vs : List (Option PlainValue)) → vs ≡ w.ivars → record w { ivars = vs } ≡ w
set_ivars w vs e = rw e refl

pub set_mvars : (w : PlainWorld) (vs : List (Option PlainValue)) → vs ≡ w.mvars → record w { mvars = vs } ≡ w
set_mvars w vs e = rw e refl

pub set_back : {X : Type 0} (xs : List X) (i : ℕ) (x y : X) → slice_get xs i ≡ Some y → slice_set (slice_set xs i x) i y ≡ xs
set_back [] i x y h = refl
set_back (z ∷ xs) zero x y h = let same : z ≡ y = cc in rw same refl
set_back (z ∷ xs) (suc i) x y h = ap (λ ys. z ∷ ys) (set_back xs i x y h)
