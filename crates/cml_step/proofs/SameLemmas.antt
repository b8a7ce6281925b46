-- What a test of two values has told.
use Rattle.std.proofs.Common.{◌≡◌, Bool, true, false, refl, ap, sym, ◌∙◌, ◌↔◌, to_z, of_z}
use Rattle.std.proofs.lemmas.Bool.{eqb-true, eq-eqb}
use Rattle.std.proofs.lemmas.Int.{to_z-of_z}
use Rattle.std.specs.Prelude.{ℤ, FitsSigned, nat_eq}
use Rattle.std.specs.Int.{w64}
use Rattle.cml_value.specs.Value.{PlainValue, int}
use Rattle.cml_step.specs.Same.{same_or_other, is_yes, are_same}

decided : {P : Type 0} (b : Bool) (d : Dec P) → ((b ≡ true) ↔ P) → b ≡ is_yes d
decided true (yes p) h = refl
decided true (no n) h = absurd (n (h.0 refl))
decided false (yes p) h = h.1 p
decided false (no n) h = refl

pub same_is : (v w : PlainValue) (b : Bool) → ((b ≡ true) ↔ (v ≡ w)) → b ≡ are_same v w
unfolding are_same
same_is v w b h = decided b (same_or_other v w) h

-- the same of two numbers, told from their bits
pub same_number : (x y : ℤ) → FitsSigned w64 x → FitsSigned w64 y → nat_eq (of_z w64 x) (of_z w64 y) ≡ are_same (int x) (int y)
same_number x y f g =
    same_is (int x) (int y) (nat_eq (of_z w64 x) (of_z w64 y)) (
      (λ h. ap int (sym (to_z-of_z w64 x f) ∙ ap (to_z w64) (eqb-true _ _ h) ∙ to_z-of_z w64 y g)),
      (λ e. let same : x ≡ y = cc in eq-eqb _ _ (ap (of_z w64) same)),
    )
