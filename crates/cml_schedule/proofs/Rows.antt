use Rattle.std.proofs.Common.{◌≡◌, ◌&&◌, true, nat_eq, arith, ℕ}
use Rattle.std.specs.Prelude.{Decides}
use Rattle.std.proofs.lemmas.Bool.Decides.{nat_tests}
use Rattle.cml_scan.specs.declared.meet.Meet.{Meet}
use Rattle.cml_scan.specs.declared.meet.Meet.TheVariants.{Single, Pair}
use Rattle.cml_scan.specs.contracts.meet.MeetPartialEq.TheImpl as derived

-- rows are told apart by their threads and leaves
pub rows_decide : (a b : Meet) → Decides ((derived.ghosts).eq a b) (a ≡ b)
rows_decide (Single t n) (Single u m) = (is t.0 n u.0 m, λ p. self t.0 n u.0 m (cc) (cc))
  where
    is : (a b c d : ℕ) → nat_eq a c && nat_eq b d ≡ true → Single (record { 0 = a }) b ≡ Single (record { 0 = c }) d
    is a b c d e = let both : (a ≡ c) × (b ≡ d) = grind (arith, nat_tests) in cc

    self : (a b c d : ℕ) → a ≡ c → b ≡ d → nat_eq a c && nat_eq b d ≡ true
    self a b c d e f = grind (arith, nat_tests)
rows_decide (Single t n) (Pair k l q m) = (λ e. cc, λ p. cc)
rows_decide (Pair h i o j) (Single u m) = (λ e. cc, λ p. cc)
rows_decide (Pair h i o j) (Pair k l q m) = (is h.0 i o.0 j k.0 l q.0 m, λ p. self h.0 i o.0 j k.0 l q.0 m (cc) (cc) (cc) (cc))
  where
    is : (a b c d e f g i : ℕ) → nat_eq a e && (nat_eq b f && (nat_eq c g && nat_eq d i)) ≡ true → Pair (record { 0 = a }) b (record { 0 = c }) d ≡ Pair (record { 0 = e }) f (record { 0 = g }) i
    is a b c d e f g i h = let all : (a ≡ e) × (b ≡ f) × (c ≡ g) × (d ≡ i) = grind (arith, nat_tests) in cc

    self : (a b c d e f g i : ℕ) → a ≡ e → b ≡ f → c ≡ g → d ≡ i → nat_eq a e && (nat_eq b f && (nat_eq c g && nat_eq d i)) ≡ true
    self a b c d e f g i p q r s = grind (arith, nat_tests)
