-- Whether two runs print alike, as a property asks of all runs.
use Rattle.std.specs.Prelude.{◌≡◌, ℕ, List, map, IsPermutation}
use denote.Ref.{Bor}
use Rattle.cml_properties.specs.declared.property.Property.{Property}
use Rattle.cml_properties.specs.declared.property.Property.TheVariants.{SameLines, SameOrder}

-- the lines are the same in some order; or as they stand; any other property speaks of one run alone
abbrev pub Agree : Property → List (List ℕ) → List (List ℕ) → Type 0
Agree SameLines these those = IsPermutation these those
Agree SameOrder these those = these ≡ those
Agree _ these those = Unit {0}

-- the bytes of the lines that are pointed to
abbrev pub texts : List (Bor (List ℕ)) → List (List ℕ)
texts lines = map (λ line. line.now) lines
