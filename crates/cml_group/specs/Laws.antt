-- What the laws of groups say.
use Rattle.std.specs.Prelude.{◌≡◌, ℕ, ◌≤◌, ◌<◌, ◌==◌, List, map, count_by, slice_get, Some}
use Rattle.std.specs.List.Sorted.{IsStrictlyIncreasing}
use Rattle.cml_value.specs.Group.{PlainGroup, PlainScope, scopes, nacks_of, lost}

-- the leaf of this number lies in the scope
abbrev pub Holds : PlainScope → ℕ → Type 0
Holds s n = (s.first ≤ n) × (n < s.past)

-- choosing leaf n fires the nacks of the scopes at these places, in this order: of no scope that holds the leaf, and of every
-- other scope once
pub record FiresAt (g : PlainGroup) (n : ℕ) (places : List ℕ) : Type 0 where
  pub nacks_are : map Some (lost g n) ≡ map (slice_get (nacks_of (scopes g))) places
  pub in_order : IsStrictlyIncreasing places
  pub never : (i : ℕ) (s : PlainScope) → slice_get (scopes g) i ≡ Some s → Holds s n → count_by (λ j. j == i) places ≡ 0
  pub once : (i : ℕ) (s : PlainScope) → slice_get (scopes g) i ≡ Some s → ¬ Holds s n → count_by (λ j. j == i) places ≡ 1
