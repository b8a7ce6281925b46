-- The nacks that choosing a leaf fires, by the parts of the group.
use Rattle.std.proofs.Common.{◌≡◌, ℕ, ◌+◌, ◌-◌, ◌<◌, ◌≤◌, ◌⊎◌, inl, inr, true, false, nat_lt, if◌then◌else◌, List, [], ◌∷◌, ◌++◌, filter, refl, ◌∙◌, ap, arith}
use Rattle.std.specs.List.{flat_map}
use Rattle.std.proofs.lemmas.Bool.Decides.{nat_tests}
use Rattle.std.proofs.lemmas.List.{map-append}
use Rattle.std.proofs.lemmas.List.Elements.{filter-append}
use Rattle.cml_value.specs.Group.{PlainGroup, choose, wrap, scope, PlainGroups, no_groups, groups_and, groups}
use Rattle.cml_value.specs.Group.{PlainScope, leaves, leaf_count, scopes, scopes_from, scopes_from_all, nacks_of}
use Rattle.cml_value.specs.Group.{lies_outside, lost}
use Rattle.cml_group.proofs.Leaves.{leaf_count-wrap, leaf_count-append}

-- how many leaves the groups of a list have
abbrev pub count_of_all : PlainGroups → ℕ
count_of_all gs = leaf_count (choose gs)

-- the nacks of those scopes in which the leaf does not lie
abbrev pub outside : List PlainScope → ℕ → List ℕ
outside ss n = nacks_of (filter (lies_outside n) ss)

pub nacks_of-append : (ss us : List PlainScope) → nacks_of (ss ++ us) ≡ nacks_of ss ++ nacks_of us
nacks_of-append ss us = map-append (λ s. s.nack) ss us

pub outside-append : (ss us : List PlainScope) (n : ℕ) → outside (ss ++ us) n ≡ outside ss n ++ outside us n
outside-append ss us n = ap nacks_of (filter-append (lies_outside n) ss us) ∙ nacks_of-append (filter (lies_outside n) ss) (filter (lies_outside n) us)

-- the nacks do not hang on the number of the first leaf
mutual
  pub nacks_from : (m k : ℕ) (g : PlainGroup) → nacks_of (scopes_from m g) ≡ nacks_of (scopes_from k g)
  nacks_from m k (choose gs) = nacks_from_all m k gs
  nacks_from m k (wrap g f) = nacks_from m k g
  nacks_from m k (scope x g) = ap (λ l. x ∷ l) (nacks_from m k g)
  nacks_from m k _ = refl

  pub nacks_from_all : (m k : ℕ) (gs : PlainGroups) → nacks_of (scopes_from_all m gs) ≡ nacks_of (scopes_from_all k gs)
  nacks_from_all m k no_groups = refl
  nacks_from_all m k (groups_and g gs) =
      let a = nacks_from m k g in
      let b = nacks_from_all (m + leaf_count g) (k + leaf_count g) gs in
      let c = nacks_of-append (scopes_from m g) (scopes_from_all (m + leaf_count g) gs) in
      let d = nacks_of-append (scopes_from k g) (scopes_from_all (k + leaf_count g) gs) in
      cc

outside_yes : (n : ℕ) (s : PlainScope) (ss : List PlainScope) → lies_outside n s ≡ true → outside (s ∷ ss) n ≡ s.nack ∷ outside ss n
outside_yes n s ss h = rw h refl

outside_no : (n : ℕ) (s : PlainScope) (ss : List PlainScope) → lies_outside n s ≡ false → outside (s ∷ ss) n ≡ outside ss n
outside_no n s ss h = rw h refl

pub lies_out : (n : ℕ) (s : PlainScope) → (n < s.first) ⊎ (s.past ≤ n) → lies_outside n s ≡ true
lies_out n s h = grind (arith, nat_tests)

pub lies_in : (n : ℕ) (s : PlainScope) → s.first ≤ n → n < s.past → lies_outside n s ≡ false
lies_in n s h k = grind (arith, nat_tests)

-- a leaf outside the group fires all its nacks
mutual
  pub outside_all : (m n : ℕ) (g : PlainGroup) → (n < m) ⊎ (m + leaf_count g ≤ n) → outside (scopes_from m g) n ≡ nacks_of (scopes_from m g)
  outside_all m n (choose gs) h = outside_all_of m n gs h
  outside_all m n (wrap g f) h = let e = leaf_count-wrap g f in outside_all m n g (grind arith)
  outside_all m n (scope x g) h =
      let s : PlainScope = record { nack = x; first = m; past = m + leaf_count g } in
      outside_yes n s (scopes_from m g) (lies_out n s h) ∙ ap (λ l. x ∷ l) (outside_all m n g h)
  outside_all m n _ h = refl

  pub outside_all_of : (m n : ℕ) (gs : PlainGroups) → (n < m) ⊎ (m + count_of_all gs ≤ n) → outside (scopes_from_all m gs) n ≡ nacks_of (scopes_from_all m gs)
  outside_all_of m n no_groups h = refl
  outside_all_of m n (groups_and g gs) h =
      let e = leaf_count-append g gs in
      let first : (n < m) ⊎ (m + leaf_count g ≤ n) = grind arith in
      let others : (n < m + leaf_count g) ⊎ (m + leaf_count g + count_of_all gs ≤ n) = grind arith in
      let a = outside_all m n g first in
      let b = outside_all_of (m + leaf_count g) n gs others in
      let c = outside-append (scopes_from m g) (scopes_from_all (m + leaf_count g) gs) n in
      let d = nacks_of-append (scopes_from m g) (scopes_from_all (m + leaf_count g) gs) in
      cc

lies_shifted : (d n x first past past' : ℕ) → past' ≡ d + past →
    lies_outside (d + n) (record { nack = x; first = d + first; past = past' }) ≡ lies_outside n (record { nack = x; first = first; past = past })
lies_shifted d n x first past past' e = grind (arith, nat_tests)

outside_same : (m n x f p g q : ℕ) (ss ts : List PlainScope) → lies_outside m (record { nack = x; first = f; past = p }) ≡ lies_outside n (record { nack = x; first = g; past = q }) →
    outside ss m ≡ outside ts n → outside (record { nack = x; first = f; past = p } ∷ ss) m ≡ outside (record { nack = x; first = g; past = q } ∷ ts) n
outside_same m n x f p g q ss ts e h = grind (arith, nat_tests)

-- what a leaf fires does not hang on the number of the first leaf
mutual
  pub outside_shifted : (d m n : ℕ) (g : PlainGroup) → outside (scopes_from (d + m) g) (d + n) ≡ outside (scopes_from m g) n
  outside_shifted d m n (choose gs) = outside_shifted_of d m n gs
  outside_shifted d m n (wrap g f) = outside_shifted d m n g
  outside_shifted d m n (scope x g) =
      outside_same (d + n) n x (d + m) (d + m + leaf_count g) m (m + leaf_count g) _ _ (lies_shifted d n x m (m + leaf_count g) (d + m + leaf_count g) (omega arith)) (outside_shifted d m n g)
  outside_shifted d m n _ = refl

  pub outside_shifted_of : (d m n : ℕ) (gs : PlainGroups) → outside (scopes_from_all (d + m) gs) (d + n) ≡ outside (scopes_from_all m gs) n
  outside_shifted_of d m n no_groups = refl
  outside_shifted_of d m n (groups_and g gs) =
      let e : d + m + leaf_count g ≡ d + (m + leaf_count g) = omega arith in
      let a = outside_shifted d m n g in
      let b : outside (scopes_from_all (d + m + leaf_count g) gs) (d + n) ≡ outside (scopes_from_all (m + leaf_count g) gs) n = rw e (outside_shifted_of d (m + leaf_count g) n gs) in
      let c = outside-append (scopes_from (d + m) g) (scopes_from_all (d + m + leaf_count g) gs) (d + n) in
      let f = outside-append (scopes_from m g) (scopes_from_all (m + leaf_count g) gs) n in
      cc

-- the scopes of the groups after the first one of a choice, as scopes of a choice of their own
shift_to : (first n c r : ℕ) (gs : PlainGroups) → first ≡ c + 0 → n ≡ c + r → outside (scopes_from_all first gs) n ≡ outside (scopes_from_all 0 gs) r
shift_to first n c r gs e f = rw (e, f) (outside_shifted_of c 0 r gs)

by_side : {X : Type 0} (n c : ℕ) (r p q : X) → (n < c → r ≡ p) → (c ≤ n → r ≡ q) → r ≡ (if nat_lt n c then p else q)
by_side n c r p q f g = grind (arith, nat_tests)

pub lost_scope : (k : ℕ) (g : PlainGroup) (n : ℕ) → lost (scope k g) n ≡ (if nat_lt n (leaf_count g) then lost g n else k ∷ nacks_of (scopes g))
lost_scope k g n =
    let s : PlainScope = record { nack = k; first = 0; past = 0 + leaf_count g } in
    by_side n (leaf_count g) _ _ _
    (λ h. outside_no n s (scopes g) (lies_in n s (omega arith) (omega arith)))
    (λ h. outside_yes n s (scopes g) (lies_out n s (inr (omega arith))) ∙ ap (λ l. k ∷ l) (outside_all 0 n g (inr (omega arith))))

pub lost_choice : (g : PlainGroup) (gs : PlainGroups) (n : ℕ) →
    lost (choose (groups_and g gs)) n
    ≡ (if nat_lt n (leaf_count g) then lost g n ++ nacks_of (scopes (choose gs)) else nacks_of (scopes g) ++ lost (choose gs) (n - leaf_count g))
lost_choice g gs n =
    let c = leaf_count g in
    outside-append (scopes g) (scopes_from_all (0 + c) gs) n
    ∙ by_side n c _ _ _
    (λ (h : n < c). ap (λ l. lost g n ++ l) (outside_all_of (0 + c) n gs (inl (omega arith)) ∙ nacks_from_all (0 + c) 0 gs))
    (λ (h : c ≤ n).
    let a = outside_all 0 n g (inr (omega arith)) in
    let b : outside (scopes_from_all (0 + c) gs) n ≡ outside (scopes_from_all 0 gs) (n - c) = shift_to (0 + c) n c (n - c) gs (omega arith) (omega arith) in
    cc)

pub nacks_choice : (gs : List PlainGroup) → nacks_of (scopes (choose (groups gs))) ≡ flat_map (λ g. nacks_of (scopes g)) gs
nacks_choice [] = refl
nacks_choice (g ∷ gs) =
    nacks_of-append (scopes g) (scopes_from_all (0 + leaf_count g) (groups gs))
    ∙ ap (λ l. nacks_of (scopes g) ++ l) (nacks_from_all (0 + leaf_count g) 0 (groups gs) ∙ nacks_choice gs)

pub leaves_choice : (gs : List PlainGroup) → leaves (choose (groups gs)) ≡ flat_map leaves gs
leaves_choice [] = refl
leaves_choice (g ∷ gs) = ap (λ l. leaves g ++ l) (leaves_choice gs)
