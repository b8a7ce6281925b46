-- Marks at places of a list, by which it is found whether a place is named twice.
use Rattle.std.specs.Prelude.{◌≡◌, ℕ, Bool, true, false, not, ◌&&◌, List, [], ◌∷◌, Option, Some, None, slice_get, slice_set}

-- there is a mark, and it is this one
abbrev pub is_that : Bool → Option Bool → Bool
is_that so None = false
is_that true (Some b) = b
is_that false (Some b) = not b

-- The places of this list get the mark `so` one after another, and none of them has that mark already when its turn comes.
abbrev pub was_each_other : Bool → List ℕ → List Bool → Bool
was_each_other so [] marks = true
was_each_other so (k ∷ ks) marks = not (is_that so (slice_get marks k)) && was_each_other so ks (slice_set marks k so)

-- no place is marked
pub record AreClear (marks : List Bool) : Type 0 where
  pub each : (k : ℕ) → is_that true (slice_get marks k) ≡ false
