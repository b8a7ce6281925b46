-- A forced event, which a thread synchronizes on: its guards and withNacks have been called. What its leaves are, which
-- functions the result of a leaf goes through, and which nacks fire where a leaf is chosen.
use Rattle.std.specs.Prelude.{ℕ, ◌+◌, max, Bool, nat_lt, nat_le, ◌||◌, List, [], ◌∷◌, ◌++◌, map, filter, length}
use Rattle.cml_value.specs.Value.{PlainBase, PlainFunction}
use Rattle.cml_value.specs.Limits.{base_size, function_size, is_within, max_depth, max_nodes}

mutual
  pub data PlainGroup : Type 0 where
    never : PlainGroup
    leaf : PlainBase → PlainGroup
    choose : PlainGroups → PlainGroup
    wrap : PlainGroup → PlainFunction → PlainGroup
    scope : ℕ → PlainGroup → PlainGroup

  -- a list of groups
  pub data PlainGroups : Type 0 where
    no_groups : PlainGroups
    groups_and : PlainGroup → PlainGroups → PlainGroups

-- the groups of a list, as a `PlainGroups`
abbrev pub groups : List PlainGroup → PlainGroups
groups [] = no_groups
groups (g ∷ gs) = groups_and g (groups gs)

-- a leaf: its base event, and the functions that its result goes through, in the order in which they run
pub record PlainLeaf : Type 0 where
  pub base : PlainBase
  pub wraps : List PlainFunction

-- the leaf under one more wrap, whose function runs last: nested wraps run innermost first (Reppy's wrap)
abbrev pub wrapped_by : PlainFunction → PlainLeaf → PlainLeaf
wrapped_by f l = record { base = l.base; wraps = l.wraps ++ f ∷ [] }

abbrev mutual
  -- the leaves from the left, which are numbered from 0: never has none, choose offers those of all its members, and a scope
  -- those of the event in it (Reppy's never, choose and wrap)
  pub leaves : PlainGroup → List PlainLeaf
  leaves never = []
  leaves (leaf b) = record { base = b; wraps = [] } ∷ []
  leaves (choose gs) = leaves_of_all gs
  leaves (wrap g f) = map (wrapped_by f) (leaves g)
  leaves (scope k g) = leaves g

  pub leaves_of_all : PlainGroups → List PlainLeaf
  leaves_of_all no_groups = []
  leaves_of_all (groups_and g gs) = leaves g ++ leaves_of_all gs

-- how many leaves there are
abbrev pub leaf_count : PlainGroup → ℕ
leaf_count g = length (leaves g)

-- the base events of the leaves, in order
abbrev pub bases : PlainGroup → List PlainBase
bases g = map (λ l. l.base) (leaves g)

-- the branch of a nack: the nack's number, the number of its first leaf, and the number past its last one
pub record PlainScope : Type 0 where
  pub nack : ℕ
  pub first : ℕ
  pub past : ℕ

abbrev mutual
  -- the scopes of a group whose first leaf has this number, from the left, an outer one before those in it
  pub scopes_from : ℕ → PlainGroup → List PlainScope
  scopes_from n (choose gs) = scopes_from_all n gs
  scopes_from n (wrap g f) = scopes_from n g
  scopes_from n (scope k g) = record { nack = k; first = n; past = n + leaf_count g } ∷ scopes_from n g
  scopes_from n _ = []

  pub scopes_from_all : ℕ → PlainGroups → List PlainScope
  scopes_from_all n no_groups = []
  scopes_from_all n (groups_and g gs) = scopes_from n g ++ scopes_from_all (n + leaf_count g) gs

-- the scopes of a group
abbrev pub scopes : PlainGroup → List PlainScope
scopes g = scopes_from 0 g

-- the numbers of these scopes' nacks
abbrev pub nacks_of : List PlainScope → List ℕ
nacks_of ss = map (λ s. s.nack) ss

-- the leaf of this number does not lie in the scope; no leaf lies in a scope without leaves, so its nack fires whichever leaf is chosen
abbrev pub lies_outside : ℕ → PlainScope → Bool
lies_outside n s = nat_lt n s.first || nat_le s.past n

-- the nacks that fire where the leaf of this number is chosen: those in whose branch it does not lie (Reppy's withNack)
abbrev pub lost : PlainGroup → ℕ → List ℕ
lost g n = nacks_of (filter (lies_outside n) (scopes g))

abbrev mutual
  -- the size, as that of an event: 1 for never, a leaf as its base event, else one more than that of the parts
  pub group_size : (ℕ → ℕ → ℕ) → PlainGroup → ℕ
  group_size join never = 1
  group_size join (leaf b) = base_size join b
  group_size join (choose gs) = groups_size join gs + 1
  group_size join (wrap g f) = join (group_size join g) (function_size join f) + 1
  group_size join (scope k g) = group_size join g + 1

  pub groups_size : (ℕ → ℕ → ℕ) → PlainGroups → ℕ
  groups_size join no_groups = 0
  groups_size join (groups_and g gs) = join (group_size join g) (groups_size join gs)

-- the depth, and the number of nodes
abbrev pub group_depth : PlainGroup → ℕ
group_depth g = group_size max g

abbrev pub groups_depth : PlainGroups → ℕ
groups_depth gs = groups_size max gs

abbrev pub group_nodes : PlainGroup → ℕ
group_nodes g = group_size (λ a b. a + b) g

abbrev pub groups_nodes : PlainGroups → ℕ
groups_nodes gs = groups_size (λ a b. a + b) gs

-- within the limits of depth and of nodes
abbrev pub group_fits : PlainGroup → Bool
group_fits g = is_within max_depth max_nodes (group_depth g) (group_nodes g)
