-- The nacks that a derivation fires are those that its leaf fires.
use Rattle.std.proofs.Common.{◌≡◌, ℕ, zero, suc, ◌+◌, ◌-◌, ◌<◌, nat_lt, if◌then◌else◌, List, [], ◌∷◌, ◌++◌, length, Some, refl, ap, ap₂, ◌∙◌, arith}
use Rattle.std.specs.Prelude.{slice_get}
use Rattle.std.proofs.lemmas.Bool.Decides.{nat_tests}
use Rattle.cml_value.specs.Value.{PlainBase}
use Rattle.cml_value.specs.Group.{PlainGroup, choose, wrap, scope, PlainGroups, no_groups, groups_and, leaves, leaf_count, scopes, scopes_from_all, nacks_of, lost}
use Rattle.cml_group.proofs.Lost.{nacks_of-append, nacks_from_all, lost_scope, lost_choice}
use Rattle.cml_rules.specs.Rules.{Sequel, Offers, OffersOne, itself, wrapped, branched, chosen, first, other, branches, branches_of_all}
use Rattle.cml_rules.specs.Places.{ends_at, ends_at_one}
use Rattle.cml_rules.proofs.Derivations.{leaf_is}

mutual
  -- the nacks of the branches are those of the scopes
  pub branches_are : (g : PlainGroup) → nacks_of (scopes g) ≡ branches g
  branches_are (scope k g) = ap (λ ks. k ∷ ks) (branches_are g)
  branches_are (wrap g f) = branches_are g
  branches_are (choose gs) = branches_are_all gs
  branches_are _ = refl

  branches_are_all : (gs : PlainGroups) → nacks_of (scopes_from_all 0 gs) ≡ branches_of_all gs
  branches_are_all no_groups = refl
  branches_are_all (groups_and g gs) =
      let c : ℕ = 0 + leaf_count g in
      let a = nacks_of-append (scopes g) (scopes_from_all c gs) in
      let b = branches_are g in
      let d = nacks_from_all c 0 gs ∙ branches_are_all gs in
      cc

pub some_below : {A : Type 0} (xs : List A) (n : ℕ) (x : A) → slice_get xs n ≡ Some x → n < length xs
some_below [] n x h = cc
some_below (y ∷ xs) zero x h = omega arith
some_below (y ∷ xs) (suc n) x h = let k = some_below xs n x h in omega arith

pub ends_below : {g : PlainGroup} {b : PlainBase} {s : Sequel} (d : Offers g b s) → ends_at d < leaf_count g
ends_below {g = g} d = some_below (leaves g) (ends_at d) _ (leaf_is d)

when_less : {X : Type 0} (n c : ℕ) (p q : X) → n < c → (if nat_lt n c then p else q) ≡ p
when_less n c p q h = grind (arith, nat_tests)

when_not : {X : Type 0} (c m : ℕ) (p : X) (q : ℕ → X) → (if nat_lt (c + m) c then p else q (c + m - c)) ≡ q m
when_not c m p q =
    let e : c + m - c ≡ m = omega arith in
    let f : nat_lt (c + m) c ≡ Rattle.std.specs.Prelude.false = grind (arith, nat_tests) in
    rw (e, f) refl

mutual
  pub lost_is : {g : PlainGroup} {b : PlainBase} {s : Sequel} (d : Offers g b s) → lost g (ends_at d) ≡ s.fired
  lost_is (itself b) = refl
  lost_is (wrapped g f b s d) = lost_is d
  lost_is (branched k g b s d) = lost_scope k g (ends_at d) ∙ when_less (ends_at d) (leaf_count g) _ _ (ends_below d) ∙ lost_is d
  lost_is (chosen gs b s d) = lost_is_one d

  lost_is_one : {gs : PlainGroups} {b : PlainBase} {s : Sequel} (d : OffersOne gs b s) → lost (choose gs) (ends_at_one d) ≡ s.fired
  lost_is_one (first g gs b s d) =
      lost_choice g gs (ends_at d)
      ∙ when_less (ends_at d) (leaf_count g) _ _ (ends_below d)
      ∙ ap₂ (λ ks js. ks ++ js) (lost_is d) (branches_are (choose gs))
  lost_is_one (other g gs b s d) =
      lost_choice g gs (leaf_count g + ends_at_one d)
      ∙ when_not (leaf_count g) (ends_at_one d) _ (λ n. nacks_of (scopes g) ++ lost (choose gs) n)
      ∙ ap₂ (λ ks js. ks ++ js) (branches_are g) (lost_is_one d)
