-- Which sides of channels meet, by their channels and by who sends.
use Rattle.std.specs.Prelude.{◌≡◌, ◌≢◌, ◌⊎◌, ◌↔◌, nat_eq, true, false, IsTrue, refl}
use Rattle.std.proofs.Common.{ℕ, arith, inl, inr}
use Rattle.std.proofs.lemmas.Bool.Decides.{nat_tests}
use Rattle.cml_objects.specs.Sides.{channel_of, is_sender, meet}
use Rattle.cml_objects.specs.declared.channel.ChannelSide.{ChannelSide}
use Rattle.cml_objects.specs.declared.channel.ChannelSide.TheVariants.{Send, Recv}

one_number : (a b : ℕ) → nat_eq a b ≡ true → a ≡ b
one_number a b e = grind (arith, nat_tests)

alike : (a b : ℕ) → a ≡ b → nat_eq a b ≡ true
alike a b e = grind (arith, nat_tests)

-- two sides meet exactly where they are on one channel and exactly one of them sends
pub sides_meet : (a b : ChannelSide) → IsTrue (meet a b) ↔ ((channel_of a ≡ channel_of b) × (IsTrue false ⊎ (is_sender a ≢ is_sender b)))
sides_meet (Send c v) (Recv d) = (λ e. (one_number c.0 d.0 e, inr (λ p. cc)), λ p. alike c.0 d.0 p.0)
sides_meet (Recv c) (Send d v) = (λ e. (one_number c.0 d.0 e, inr (λ p. cc)), λ p. alike c.0 d.0 p.0)
sides_meet (Send c v) (Send d w) = (λ e. cc, λ p. both p.1)
  where
    both : IsTrue false ⊎ (is_sender (Send c v) ≢ is_sender (Send d w)) → IsTrue false
    both (inl e) = e
    both (inr f) = absurd (f refl)
sides_meet (Recv c) (Recv d) = (λ e. cc, λ p. both p.1)
  where
    both : IsTrue false ⊎ (is_sender (Recv c) ≢ is_sender (Recv d)) → IsTrue false
    both (inl e) = e
    both (inr f) = absurd (f refl)

-- the kind has two lanes
pub sides_lead : (a : ChannelSide) → IsTrue false → IsTrue (is_sender a)
sides_lead a e = cc
