-- Whether two values of a type with a code are the same.
use Rattle.std.specs.Prelude.{◌≡◌, Bool, true, false, refl}
use Rattle.std.specs.Cmp.{IsEquivalence, IsPartialEquivalence, partial_equiv_from_equiv}
use Rattle.std.specs.Coded.{Coded}
use Rattle.std.proofs.Common.{ap, sym}
use mathlib.Core.Logic.{dite}
use native.Mathlib.Decide.{ℕ_discrete}
use base.Stored.{Gv, gnil, gnum, gcons}

same_code : (x y : Gv) → Dec (x ≡ y)
same_code gnil gnil = yes refl
same_code gnil (gnum n) = no (λ p. cc)
same_code gnil (gcons c d) = no (λ p. cc)
same_code (gnum m) gnil = no (λ p. cc)
same_code (gnum m) (gnum n) = dite (ℕ_discrete m n) (λ p. yes (ap gnum p)) (λ h. no (λ p. h (cc)))
same_code (gnum m) (gcons c d) = no (λ p. cc)
same_code (gcons a b) gnil = no (λ p. cc)
same_code (gcons a b) (gnum n) = no (λ p. cc)
same_code (gcons a b) (gcons c d) =
    dite (same_code a c) (λ p. dite (same_code b d) (λ q. yes (cc)) (λ h. no (λ r. h (cc)))) (λ h. no (λ r. h (cc)))

abbrev is_yes : {P : Type 0} → Dec P → Bool
is_yes (yes p) = true
is_yes (no h) = false

yes_says : {P : Type 0} (d : Dec P) → is_yes d ≡ true → P
yes_says (yes p) e = p
yes_says (no h) e = absurd (none e)
  where
    none : false ≡ true → ⊥
    none f = cc

yes_so : {P : Type 0} (d : Dec P) → P → is_yes d ≡ true
yes_so (yes p) q = refl
yes_so (no h) q = absurd (h q)

module _ {A : Type 0} (c : Coded A) where
  -- the two are the same
  pub is_same : A → A → Bool
  is_same x y = is_yes (same_code (c.code x) (c.code y))

  pub is_same_says : (x y : A) → is_same x y ≡ true → x ≡ y
  unfolding is_same
  is_same_says x y e = c.inj x y (yes_says (same_code (c.code x) (c.code y)) e)

  pub is_same_so : (x y : A) → x ≡ y → is_same x y ≡ true
  unfolding is_same
  is_same_so x y e = yes_so (same_code (c.code x) (c.code y)) (ap c.code e)

  both_ways : (s t : Bool) → (s ≡ true → t ≡ true) → (t ≡ true → s ≡ true) → s ≡ t
  both_ways true true f g = refl
  both_ways true false f g = sym (f refl)
  both_ways false true f g = g refl
  both_ways false false f g = refl

  -- a test that says whether the two are the same is this one
  pub is_same_is : (b : Bool) (x y : A) → (b ≡ true → x ≡ y) → (x ≡ y → b ≡ true) → b ≡ is_same x y
  is_same_is b x y f g = both_ways b (is_same x y) (λ e. is_same_so x y (f e)) (λ e. g (is_same_says x y e))

  pub is_same_equivalence : IsEquivalence is_same
  is_same_equivalence = record {
    refl = λ x. is_same_so x x refl;
    symm = λ x y. both_ways (is_same x y) (is_same y x) (λ e. is_same_so y x (sym (is_same_says x y e))) (λ e. is_same_so x y (sym (is_same_says y x e)));
    congr = λ x y z e. ap (λ v. is_same v z) (is_same_says x y e);
  }

  pub is_same_partly : IsPartialEquivalence is_same
  is_same_partly = partial_equiv_from_equiv is_same_equivalence
