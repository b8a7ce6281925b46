-- From a state back to the start.
use Rattle.std.proofs.Common.{◌≡◌, ℕ, ◌+◌, ◌-◌, ◌<◌, List, [], ◌∷◌, ◌++◌, reverse, Option, None, Some, slice_get, refl, ap, ◌∙◌, arith}
use Rattle.std.specs.Prelude.{option_and_then}
use Rattle.std.proofs.lemmas.List.{reverse-append}
use Rattle.cml_verify.specs.Systems.{System, run}
use Rattle.cml_verify.specs.Searches.{IsTrail}

module _ {S I : Type 0} (y : System S I) where
  -- items in reverse lead from the one state to the other
  abbrev pub LeadsBack : List S → List I → ℕ → ℕ → Type 0
  LeadsBack states items at place = option_and_then (λ s. run y s (reverse items)) (slice_get states at) ≡ slice_get states place

  step_first : (o : Option S) (i : I) (items : List I) → option_and_then (λ s. run y s (i ∷ items)) o ≡ option_and_then (λ t. run y t items) (option_and_then (λ s. y.step s i) o)
  step_first None i items = refl
  step_first (Some s) i items = refl

  pub back_more : (states : List S) (origins : List (ℕ × I)) (items : List I) (at place : ℕ) (o : ℕ × I) → IsTrail y states origins → 0 < at → slice_get origins (at - 1) ≡ Some o
      → LeadsBack states items at place → LeadsBack states (items ++ o.1 ∷ []) o.0 place
  back_more states origins items at place o t pos h leads =
      let at_is : at - 1 + 1 ≡ at = omega arith in
      let came = t.came (at - 1) o h ∙ ap (slice_get states) at_is in
      ap (λ l. option_and_then (λ s. run y s l) (slice_get states o.0)) (reverse-append items (o.1 ∷ []))
      ∙ (step_first (slice_get states o.0) o.1 (reverse items) ∙ (ap (λ p. option_and_then (λ u. run y u (reverse items)) p) came ∙ leads))
