-- The call below the top one.
use Rattle.std.proofs.Common.{◌≡◌, List, [], ◌∷◌, Option, Some, None, ap, ◌∙◌}
use Rattle.std.specs.Prelude.{MatchOption, slice_get}
use Rattle.cml_step.specs.Machines.{PlainHeld}

-- it is the first of those behind the top one
pub second_found : {C : Type 0} (r : Option C) (held : C → PlainHeld) (all rest after : List PlainHeld) (top : PlainHeld) → all ≡ top ∷ rest
    → MatchOption r (rest ≡ []) (λ c. rest ≡ held c ∷ after) → MatchOption r (slice_get all 1 ≡ None) (λ c. slice_get all 1 ≡ Some (held c))
second_found None held all rest after top is none = ap (λ xs. slice_get xs 1) is ∙ ap (λ xs. slice_get xs 0) none
second_found (Some c) held all rest after top is some = ap (λ xs. slice_get xs 1) is ∙ ap (λ xs. slice_get xs 0) some
