-- Whether two values are the same: equality of structure, over all kinds. The type of the test says that it is right.
use Rattle.std.specs.Prelude.{◌≡◌, Bool, true, false, refl}
use Rattle.std.proofs.Common.{ap}
use mathlib.Core.Logic.{dite}
use native.Mathlib.Decide.{ℕ_discrete}
use base.Stored.{Gv, gnil, gnum, gcons}
use Rattle.cml_value.specs.Value.{PlainValue}
use Rattle.cml_value.specs.Codes.{value_code}

same_code : (x y : Gv) → Dec (x ≡ y)
same_code gnil gnil = yes refl
same_code gnil (gnum n) = no (λ p. cc)
same_code gnil (gcons c d) = no (λ p. cc)
same_code (gnum m) gnil = no (λ p. cc)
same_code (gnum m) (gnum n) = dite (ℕ_discrete m n) (λ p. yes (ap gnum p)) (λ h. no (λ p. h (cc)))
same_code (gnum m) (gcons c d) = no (λ p. cc)
same_code (gcons a b) gnil = no (λ p. cc)
same_code (gcons a b) (gnum n) = no (λ p. cc)
same_code (gcons a b) (gcons c d) =
    dite (same_code a c) (λ p. dite (same_code b d) (λ q. yes (cc)) (λ h. no (λ r. h (cc)))) (λ h. no (λ r. h (cc)))

-- two values are the same, or they are not
pub same_or_other : (v w : PlainValue) → Dec (v ≡ w)
same_or_other v w = dite (same_code (value_code.code v) (value_code.code w)) (λ p. yes (value_code.inj v w p)) (λ h. no (λ p. h (ap value_code.code p)))

abbrev pub is_yes : {P : Type 0} → Dec P → Bool
is_yes (yes p) = true
is_yes (no h) = false

-- the two are the same
unfoldable pub are_same : PlainValue → PlainValue → Bool
are_same v w = is_yes (same_or_other v w)
