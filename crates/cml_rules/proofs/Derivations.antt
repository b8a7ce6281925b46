-- The derivations of a group's offers are its leaves: one for each.
use Rattle.std.proofs.Common.{◌≡◌, ℕ, zero, suc, ◌+◌, ◌-◌, ◌<◌, ◌≤◌, ◌⊎◌, inl, inr, List, [], ◌∷◌, ◌++◌, length, map, Some, refl, ap, sym, ◌∙◌, arith, length-append}
use Rattle.std.specs.Prelude.{slice_get}
use Rattle.cml_value.specs.Value.{PlainFunction, PlainBase}
use Rattle.cml_value.specs.Group.{PlainGroup, never, leaf, choose, wrap, scope, PlainGroups, no_groups, groups_and, leaves, leaves_of_all, wrapped_by, leaf_count}
use Rattle.cml_rules.specs.Rules.{Sequel, Offers, OffersOne, itself, wrapped, branched, chosen, first, other, branches, branches_of_all}
use Rattle.cml_rules.specs.Places.{ends_at, ends_at_one}

-- a derivation, with the base event and the sequel that it is of
abbrev pub Derived : PlainGroup → Type 0
Derived g = (b : PlainBase) × (s : Sequel) × Offers g b s

abbrev pub DerivedOne : PlainGroups → Type 0
DerivedOne gs = (b : PlainBase) × (s : Sequel) × OffersOne gs b s

abbrev of_wrap : (g : PlainGroup) (f : PlainFunction) → Derived g → Derived (wrap g f)
of_wrap g f d = (d.0, record { wraps = d.1.wraps ++ f ∷ []; fired = d.1.fired }, wrapped g f d.0 d.1 d.2)

abbrev of_scope : (k : ℕ) (g : PlainGroup) → Derived g → Derived (scope k g)
of_scope k g d = (d.0, d.1, branched k g d.0 d.1 d.2)

abbrev of_choice : (gs : PlainGroups) → DerivedOne gs → Derived (choose gs)
of_choice gs d = (d.0, d.1, chosen gs d.0 d.1 d.2)

abbrev of_first : (g : PlainGroup) (gs : PlainGroups) → Derived g → DerivedOne (groups_and g gs)
of_first g gs d = (d.0, record { wraps = d.1.wraps; fired = d.1.fired ++ branches_of_all gs }, first g gs d.0 d.1 d.2)

abbrev of_other : (g : PlainGroup) (gs : PlainGroups) → DerivedOne gs → DerivedOne (groups_and g gs)
of_other g gs d = (d.0, record { wraps = d.1.wraps; fired = branches g ++ d.1.fired }, other g gs d.0 d.1 d.2)

abbrev mutual
  -- all derivations, from the left
  pub derivations : (g : PlainGroup) → List (Derived g)
  derivations never = []
  derivations (leaf b) = (b, record { wraps = []; fired = [] }, itself b) ∷ []
  derivations (choose gs) = map (of_choice gs) (derivations_one gs)
  derivations (wrap g f) = map (of_wrap g f) (derivations g)
  derivations (scope k g) = map (of_scope k g) (derivations g)

  pub derivations_one : (gs : PlainGroups) → List (DerivedOne gs)
  derivations_one no_groups = []
  derivations_one (groups_and g gs) = map (of_first g gs) (derivations g) ++ map (of_other g gs) (derivations_one gs)

pub get_map : {A B : Type 0} (f : A → B) (xs : List A) (n : ℕ) (x : A) → slice_get xs n ≡ Some x → slice_get (map f xs) n ≡ Some (f x)
get_map f [] n x h = cc
get_map f (y ∷ xs) zero x h = cc
get_map f (y ∷ xs) (suc n) x h = get_map f xs n x h

pub get_left : {A : Type 0} (xs ys : List A) (n : ℕ) (x : A) → slice_get xs n ≡ Some x → slice_get (xs ++ ys) n ≡ Some x
get_left [] ys n x h = cc
get_left (y ∷ xs) ys zero x h = h
get_left (y ∷ xs) ys (suc n) x h = get_left xs ys n x h

pub get_right : {A : Type 0} (xs ys : List A) (c n : ℕ) → c ≡ length xs → slice_get (xs ++ ys) (c + n) ≡ slice_get ys n
get_right [] ys c n e = let z : c + n ≡ n = omega arith in rw z refl
get_right (x ∷ xs) ys zero n e = absurd (omega arith)
get_right (x ∷ xs) ys (suc c) n e = let z : suc c + n ≡ suc (c + n) = omega arith in rw z (get_right xs ys c n (omega arith))

length_map : {A B : Type 0} (f : A → B) (xs : List A) → length (map f xs) ≡ length xs
length_map f [] = refl
length_map f (x ∷ xs) = ap suc (length_map f xs)

mutual
  length_all : (g : PlainGroup) → length (derivations g) ≡ leaf_count g
  length_all never = refl
  length_all (leaf b) = refl
  length_all (choose gs) = length_map (of_choice gs) (derivations_one gs) ∙ length_one gs
  length_all (wrap g f) = length_map (of_wrap g f) (derivations g) ∙ length_all g ∙ sym (length_map (wrapped_by f) (leaves g))
  length_all (scope k g) = length_map (of_scope k g) (derivations g) ∙ length_all g

  length_one : (gs : PlainGroups) → length (derivations_one gs) ≡ length (leaves_of_all gs)
  length_one no_groups = refl
  length_one (groups_and g gs) =
      let a = length-append (map (of_first g gs) (derivations g)) (map (of_other g gs) (derivations_one gs)) in
      let b = length-append (leaves g) (leaves_of_all gs) in
      let c = length_map (of_first g gs) (derivations g) in
      let d = length_map (of_other g gs) (derivations_one gs) in
      let e = length_all g in
      let f = length_one gs in
      omega arith

mutual
  -- a derivation stands at its number
  pub found : {g : PlainGroup} {b : PlainBase} {s : Sequel} (d : Offers g b s) → slice_get (derivations g) (ends_at d) ≡ Some (b, s, d)
  found (itself b) = refl
  found (wrapped g f b s d) = get_map (of_wrap g f) (derivations g) (ends_at d) (b, s, d) (found d)
  found (branched k g b s d) = get_map (of_scope k g) (derivations g) (ends_at d) (b, s, d) (found d)
  found (chosen gs b s d) = get_map (of_choice gs) (derivations_one gs) (ends_at_one d) (b, s, d) (found_one d)

  pub found_one : {gs : PlainGroups} {b : PlainBase} {s : Sequel} (d : OffersOne gs b s) → slice_get (derivations_one gs) (ends_at_one d) ≡ Some (b, s, d)
  found_one (first g gs b s d) =
      get_left (map (of_first g gs) (derivations g)) (map (of_other g gs) (derivations_one gs)) (ends_at d) _ (get_map (of_first g gs) (derivations g) (ends_at d) (b, s, d) (found d))
  found_one (other g gs b s d) =
      get_right (map (of_first g gs) (derivations g)) (map (of_other g gs) (derivations_one gs)) (leaf_count g) (ends_at_one d) (sym (length_map (of_first g gs) (derivations g) ∙ length_all g))
      ∙ get_map (of_other g gs) (derivations_one gs) (ends_at_one d) (b, s, d) (found_one d)

mutual
  -- the leaf at which a derivation ends has its base event and its wraps
  pub leaf_is : {g : PlainGroup} {b : PlainBase} {s : Sequel} (d : Offers g b s) → slice_get (leaves g) (ends_at d) ≡ Some (record { base = b; wraps = s.wraps })
  leaf_is (itself b) = refl
  leaf_is (wrapped g f b s d) = get_map (wrapped_by f) (leaves g) (ends_at d) _ (leaf_is d)
  leaf_is (branched k g b s d) = leaf_is d
  leaf_is (chosen gs b s d) = leaf_is_one d

  leaf_is_one : {gs : PlainGroups} {b : PlainBase} {s : Sequel} (d : OffersOne gs b s) → slice_get (leaves_of_all gs) (ends_at_one d) ≡ Some (record { base = b; wraps = s.wraps })
  leaf_is_one (first g gs b s d) = get_left (leaves g) (leaves_of_all gs) (ends_at d) _ (leaf_is d)
  leaf_is_one (other g gs b s d) = get_right (leaves g) (leaves_of_all gs) (leaf_count g) (ends_at_one d) refl ∙ leaf_is_one d

-- where there is a leaf, a derivation ends at it
pub record Ends (g : PlainGroup) (n : ℕ) : Type 0 where
  pub base : PlainBase
  pub sequel : Sequel
  pub derivation : Offers g base sequel
  pub at : ends_at derivation ≡ n

record EndsOne (gs : PlainGroups) (n : ℕ) : Type 0 where
  base : PlainBase
  sequel : Sequel
  derivation : OffersOne gs base sequel
  at : ends_at_one derivation ≡ n

pub below : (n c : ℕ) → (n < c) ⊎ (c ≤ n)
below n zero = inr (omega arith)
below zero (suc c) = inl (omega arith)
below (suc n) (suc c) = elim (below n c) [ inl h ↦ inl (omega arith) | inr h ↦ inr (omega arith) ]

mutual
  pub reached : (g : PlainGroup) (n : ℕ) → n < leaf_count g → Ends g n
  reached never n h = absurd (omega arith)
  reached (leaf b) zero h = record { base = b; sequel = record { wraps = []; fired = [] }; derivation = itself b; at = refl }
  reached (leaf b) (suc n) h = absurd (omega arith)
  reached (choose gs) n h = let r = reached_one gs n h in record { base = r.base; sequel = r.sequel; derivation = chosen gs r.base r.sequel r.derivation; at = r.at }
  reached (wrap g f) n h =
      let e = length_map (wrapped_by f) (leaves g) in
      let r = reached g n (omega arith) in
      record { base = r.base; sequel = record { wraps = r.sequel.wraps ++ f ∷ []; fired = r.sequel.fired }; derivation = wrapped g f r.base r.sequel r.derivation; at = r.at }
  reached (scope k g) n h = let r = reached g n h in record { base = r.base; sequel = r.sequel; derivation = branched k g r.base r.sequel r.derivation; at = r.at }

  reached_one : (gs : PlainGroups) (n : ℕ) → n < length (leaves_of_all gs) → EndsOne gs n
  reached_one no_groups n h = absurd (omega arith)
  reached_one (groups_and g gs) n h = at (below n (leaf_count g)) (reached g n) (reached_one gs (n - leaf_count g))
    where
      at : (n < leaf_count g) ⊎ (leaf_count g ≤ n) → (n < leaf_count g → Ends g n) → (n - leaf_count g < length (leaves_of_all gs) → EndsOne gs (n - leaf_count g)) → EndsOne (groups_and g gs) n
      at (inl k) one more = let r = one k in
          record { base = r.base; sequel = record { wraps = r.sequel.wraps; fired = r.sequel.fired ++ branches_of_all gs }; derivation = first g gs r.base r.sequel r.derivation; at = r.at }
      at (inr k) one more =
          let e = length-append (leaves g) (leaves_of_all gs) in
          let r = more (omega arith) in
          let a = r.at in
          record { base = r.base; sequel = record { wraps = r.sequel.wraps; fired = branches g ++ r.sequel.fired }; derivation = other g gs r.base r.sequel r.derivation; at = omega arith }

-- two derivations of one leaf are one
pub one_each : {g : PlainGroup} (d e : Derived g) → ends_at d.2 ≡ ends_at e.2 → d ≡ e
one_each {g = g} d e same = some_is _ _ (sym (found d.2) ∙ ap (slice_get (derivations g)) same ∙ found e.2)
  where
    some_is : (x y : Derived g) → Some x ≡ Some y → x ≡ y
    some_is x y h = cc
