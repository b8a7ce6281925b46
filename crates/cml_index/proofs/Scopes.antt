-- The nacks of a group, by its parts.
use Rattle.std.proofs.Common.{◌≡◌, ℕ, ◌+◌, List, ◌∷◌, ◌++◌, refl, ap, sym, ◌∙◌}
use Rattle.std.proofs.lemmas.List.{map-append}
use Rattle.cml_value.specs.Group.{PlainGroup, never, leaf, choose, wrap, scope, PlainGroups, no_groups, groups_and, PlainScope, leaf_count, scopes, scopes_from, scopes_from_all, nacks_of}

mutual
  -- the nacks do not depend on the leaves' numbers
  pub nacks_from : (m k : ℕ) (g : PlainGroup) → nacks_of (scopes_from m g) ≡ nacks_of (scopes_from k g)
  nacks_from m k never = refl
  nacks_from m k (leaf b) = refl
  nacks_from m k (choose gs) = nacks_from_all m k gs
  nacks_from m k (wrap g f) = nacks_from m k g
  nacks_from m k (scope n g) = ap (λ ns. n ∷ ns) (nacks_from m k g)

  pub nacks_from_all : (m k : ℕ) (gs : PlainGroups) → nacks_of (scopes_from_all m gs) ≡ nacks_of (scopes_from_all k gs)
  nacks_from_all m k no_groups = refl
  nacks_from_all m k (groups_and g gs) =
      map-append (λ (s : PlainScope). s.nack) (scopes_from m g) (scopes_from_all (m + leaf_count g) gs)
      ∙ rw (nacks_from m k g, nacks_from_all (m + leaf_count g) (k + leaf_count g) gs) (sym (map-append (λ (s : PlainScope). s.nack) (scopes_from k g) (scopes_from_all (k + leaf_count g) gs)))

-- the nacks of all groups of a list
abbrev pub nacks_of_all : PlainGroups → List ℕ
nacks_of_all gs = nacks_of (scopes_from_all 0 gs)

pub nacks-groups_and : (g : PlainGroup) (gs : PlainGroups) → nacks_of_all (groups_and g gs) ≡ nacks_of (scopes g) ++ nacks_of_all gs
nacks-groups_and g gs =
    map-append (λ (s : PlainScope). s.nack) (scopes_from 0 g) (scopes_from_all (0 + leaf_count g) gs) ∙ ap (λ ns. nacks_of (scopes g) ++ ns) (nacks_from_all (0 + leaf_count g) 0 gs)

pub ruleset nack_steps = (nacks-groups_and)
