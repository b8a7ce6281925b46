-- Which swaps meet, by their swap channels.
use Rattle.std.specs.Prelude.{◌≡◌, ◌≢◌, ◌⊎◌, ◌↔◌, true, nat_eq, IsTrue, refl}
use Rattle.std.proofs.Common.{ℕ, arith, inl}
use Rattle.std.proofs.lemmas.Bool.Decides.{nat_tests}
use Rattle.cml_objects.specs.Swaps.{channel_of, can_stand_first, meet}
use Rattle.cml_objects.specs.declared.swap.SwapSide.{SwapSide}

one_number : (a b : ℕ) → nat_eq a b ≡ true → a ≡ b
one_number a b e = grind (arith, nat_tests)

alike : (a b : ℕ) → a ≡ b → nat_eq a b ≡ true
alike a b e = grind (arith, nat_tests)

-- two swaps meet exactly where they are on one swap channel
pub sides_meet : (a b : SwapSide) → IsTrue (meet a b) ↔ ((channel_of a ≡ channel_of b) × (IsTrue true ⊎ (can_stand_first a ≢ can_stand_first b)))
sides_meet a b = (λ e. (one_number a.on.0 b.on.0 e, inl refl), λ p. alike a.on.0 b.on.0 p.0)

-- each swap could stand first
pub sides_lead : (a : SwapSide) → IsTrue true → IsTrue (can_stand_first a)
sides_lead a e = refl
