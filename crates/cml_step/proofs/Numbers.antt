-- Numbers of 64 bits.
use Rattle.std.proofs.Common.{◌≡◌, Bool, true, false, refl, arith}
use Rattle.std.proofs.lemmas.Grind.{common_steps}
use Rattle.std.specs.Prelude.{ℤ, pos, negsuc, FitsSigned}
use Rattle.std.specs.Int.{w64}
use Rattle.cml_step.specs.Operators.{is_in_range}

pub number_fits : (z : ℤ) → FitsSigned w64 z → is_in_range z ≡ true
number_fits (pos n) f = grind (arith, common_steps, f.sfits)
number_fits (negsuc n) f = grind (arith, common_steps, f.sfits)

not_true : (b : Bool) → (b ≡ true → ⊥) → b ≡ false
not_true true h = absurd (h refl)
not_true false h = refl

fits_number : (z : ℤ) → is_in_range z ≡ true → FitsSigned w64 z
fits_number (pos n) e = record { sfits = grind (arith, common_steps, e) }
fits_number (negsuc n) e = record { sfits = grind (arith, common_steps, e) }

pub number_too_far : (z : ℤ) → (FitsSigned w64 z → ⊥) → is_in_range z ≡ false
number_too_far z h = not_true (is_in_range z) (λ e. h (fits_number z e))
