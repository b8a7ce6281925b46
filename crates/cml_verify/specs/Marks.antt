-- Marks at places.
use Rattle.std.specs.Prelude.{◌≡◌, ℕ, Bool, true, List, Some, IfSome, Contains, slice_get}
use Rattle.std.specs.List.{All}
use Rattle.cml_verify.specs.Systems.{System, CanReach}

-- the place is marked
abbrev pub IsMarked : List Bool → ℕ → Type 0
IsMarked marks k = slice_get marks k ≡ Some true

-- a place is marked from which an edge leads to a marked one
abbrev pub IsBackClosed : {I : Type 0} → List (ℕ × I × ℕ) → List Bool → Type 0
IsBackClosed edges marks = All (λ e. IsMarked marks e.2 → IsMarked marks e.0) edges

-- these are the places of the states of which this is so
pub record ArePlacesOf {S : Type 0} (over : S → Bool) (states : List S) (places : List ℕ) : Type 0 where
  pub each : All (λ k. IfSome (slice_get states k) (λ s. over s ≡ true)) places
  pub all : (k : ℕ) → IfSome (slice_get states k) (λ s. over s ≡ true → Contains places k)

-- from the state at each marked place one can be reached of which this is so
abbrev pub AllCanReach : {S I : Type 0} → System S I → (S → Bool) → List S → List Bool → Type 0
AllCanReach {S = S} y over states marks = (k : ℕ) (s : S) → IsMarked marks k → slice_get states k ≡ Some s → CanReach y over s
