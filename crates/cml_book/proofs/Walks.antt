-- The base events and the scopes of a group, by its parts.
use Rattle.std.proofs.Common.{◌≡◌, ℕ, ◌+◌, suc, ◌<◌, get_or, drop, drop-cons, add-one, sym, ◌&&◌, ◌||◌, Bool, true, false, not, List, [], ◌∷◌, ◌++◌, length, map, refl, ap, ◌∙◌}
use Rattle.std.specs.List.{list_all, list_any}
use Rattle.std.proofs.lemmas.List.{map-append}
use Rattle.std.proofs.lemmas.List.Folds.{list_all-append}
use Rattle.cml_value.specs.Value.{PlainBase, PlainFunction}
use Rattle.cml_value.specs.Group.{PlainGroup, never, leaf, choose, wrap, scope, PlainGroups, no_groups, groups_and}
use Rattle.cml_value.specs.Group.{groups, PlainLeaf, wrapped_by, leaves, leaves_of_all, leaf_count, bases}
use Rattle.cml_value.specs.Group.{PlainScope, scopes, scopes_from, scopes_from_all, nacks_of}
use Rattle.std.specs.Prelude.{slice_get, slice_set}
use Rattle.cml_book.specs.Entering.{is_far}
use Rattle.cml_book.specs.Sync.{with_each}
use Rattle.cml_book.specs.NackMarks.{is_that, was_each_other}

-- the base events of all groups of a list
abbrev pub bases_of_all : PlainGroups → List PlainBase
bases_of_all gs = map (λ l. l.base) (leaves_of_all gs)

bases-wrapped : (f : PlainFunction) (ls : List PlainLeaf) → map (λ l. l.base) (map (wrapped_by f) ls) ≡ map (λ l. l.base) ls
bases-wrapped f [] = refl
bases-wrapped f (l ∷ ls) = ap (λ bs. l.base ∷ bs) (bases-wrapped f ls)

pub bases-wrap : (g : PlainGroup) (f : PlainFunction) → bases (wrap g f) ≡ bases g
bases-wrap g f = bases-wrapped f (leaves g)

pub bases-groups_and : (g : PlainGroup) (gs : PlainGroups) → bases_of_all (groups_and g gs) ≡ bases g ++ bases_of_all gs
bases-groups_and g gs = map-append (λ (l : PlainLeaf). l.base) (leaves g) (leaves_of_all gs)

-- the groups from a member on are that member and those after it
groups-drop : (gs : List PlainGroup) (i : ℕ) (g : PlainGroup) → i < length gs → g ≡ get_or gs i g → groups (drop i gs) ≡ groups_and g (groups (drop (i + 1) gs))
groups-drop gs i g h is = rw add-one (ap groups (drop-cons gs i g h) ∙ ap (λ x. groups_and x (groups (drop (suc i) gs))) (sym is))

-- the test of the bases goes on where a member passes
pub bases_go_on : (p : PlainBase → Bool) (gs : List PlainGroup) (i : ℕ) (g : PlainGroup) → i < length gs → g
    ≡ get_or gs i g → list_all p (bases g) ≡ true → list_all p (bases_of_all (groups (drop i gs)))
    ≡ list_all p (bases_of_all (groups (drop (i + 1) gs)))
bases_go_on p gs i g h is passes =
    let rest = groups (drop (i + 1) gs) in
    let both : list_all p (bases_of_all (groups (drop i gs))) ≡ list_all p (bases g ++ bases_of_all rest) =
    ap (λ (x : PlainGroups). list_all p (bases_of_all x)) (groups-drop gs i g h is) ∙ ap (list_all p) (bases-groups_and g rest) in
    both ∙ list_all-append p (bases g) (bases_of_all rest) ∙ ap (λ (b : Bool). b && list_all p (bases_of_all rest)) passes

-- the one base event of a leaf passes
pub leaf_passes : (p : PlainBase → Bool) (b : PlainBase) (g : PlainGroup) → leaf b ≡ g → p b ≡ true → list_all p (bases g) ≡ true
leaf_passes p b g is h = ap (λ (x : PlainGroup). list_all p (bases x)) (sym is) ∙ ap (λ s. s && true) h

pub ruleset base_steps = (bases-wrap, bases-groups_and, list_all-append)

-- the nacks of the scopes of all groups of a list
abbrev pub nacks_of_all : PlainGroups → List ℕ
nacks_of_all gs = nacks_of (scopes_from_all 0 gs)

-- the nacks of the scopes don't depend on the number of the first leaf
mutual
  pub nacks-shift : (m n : ℕ) (g : PlainGroup) → nacks_of (scopes_from m g) ≡ nacks_of (scopes_from n g)
  nacks-shift m n never = refl
  nacks-shift m n (leaf b) = refl
  nacks-shift m n (choose gs) = nacks-shift_all m n gs
  nacks-shift m n (wrap g f) = nacks-shift m n g
  nacks-shift m n (scope k g) = ap (λ ks. k ∷ ks) (nacks-shift m n g)

  pub nacks-shift_all : (m n : ℕ) (gs : PlainGroups) → nacks_of (scopes_from_all m gs) ≡ nacks_of (scopes_from_all n gs)
  nacks-shift_all m n no_groups = refl
  nacks-shift_all m n (groups_and g gs) =
      let left = map-append (λ (s : PlainScope). s.nack) (scopes_from m g) (scopes_from_all (m + leaf_count g) gs) in
      let right = map-append (λ (s : PlainScope). s.nack) (scopes_from n g) (scopes_from_all (n + leaf_count g) gs) in
      let head = nacks-shift m n g in
      let rest = nacks-shift_all (m + leaf_count g) (n + leaf_count g) gs in
      cc

pub nacks-groups_and : (g : PlainGroup) (gs : PlainGroups) → nacks_of_all (groups_and g gs) ≡ nacks_of (scopes g) ++ nacks_of_all gs
nacks-groups_and g gs =
    let both = map-append (λ (s : PlainScope). s.nack) (scopes g) (scopes_from_all (0 + leaf_count g) gs) in
    let rest = nacks-shift_all (0 + leaf_count g) 0 gs in
    cc

-- the test of the nacks goes on where a member passes
pub nacks_go_on : (p : ℕ → Bool) (gs : List PlainGroup) (i : ℕ) (g : PlainGroup) → i < length gs → g ≡ get_or gs i g
    → list_all p (nacks_of (scopes g)) ≡ true → list_all p (nacks_of_all (groups (drop i gs)))
    ≡ list_all p (nacks_of_all (groups (drop (i + 1) gs)))
nacks_go_on p gs i g h is passes =
    let rest = groups (drop (i + 1) gs) in
    let both : list_all p (nacks_of_all (groups (drop i gs))) ≡ list_all p (nacks_of (scopes g) ++ nacks_of_all rest) =
    ap (λ (x : PlainGroups). list_all p (nacks_of_all x)) (groups-drop gs i g h is) ∙ ap (list_all p) (nacks-groups_and g rest) in
    both ∙ list_all-append p (nacks_of (scopes g)) (nacks_of_all rest) ∙ ap (λ (b : Bool). b && list_all p (nacks_of_all rest)) passes

-- a leaf has no scope
pub leaf_plain : (b : PlainBase) (g : PlainGroup) → leaf b ≡ g → list_all (λ k. false) (nacks_of (scopes g)) ≡ true
leaf_plain b g is = ap (λ (x : PlainGroup). list_all (λ k. false) (nacks_of (scopes x))) (sym is)

pub ruleset nack_steps = (nacks-groups_and, list_all-append)

not_any : {X : Type 0} (p : X → Bool) (xs : List X) → list_any p xs ≡ not (list_all (λ x. not (p x)) xs)
not_any p [] = refl
not_any p (x ∷ xs) =
    let rest = not_any p xs in
    elim (p x) as (λ b. (b || list_any p xs) ≡ not (not b && list_all (λ y. not (p y)) xs)) [ true ↦ refl | false ↦ rest ]

-- no base is far where all are near
pub any_far : (tick : ℕ) (bs : List PlainBase) → list_any (is_far tick) bs ≡ not (list_all (λ b. not (is_far tick b)) bs)
any_far tick bs = not_any (is_far tick) bs

pub ruleset refusal_steps = (any_far)

-- places are set one list after another
pub with_each-append : {X : Type 0} (js ks : List ℕ) (so : X) (xs : List X) → with_each (js ++ ks) so xs ≡ with_each ks so (with_each js so xs)
with_each-append [] ks so xs = refl
with_each-append (j ∷ js) ks so xs = with_each-append js ks so (slice_set xs j so)

pub was_each_other-append : (so : Bool) (js ks : List ℕ) (marks : List Bool) → was_each_other so (js ++ ks) marks ≡ was_each_other so js marks && was_each_other so ks (with_each js so marks)
was_each_other-append so [] ks marks = refl
was_each_other-append so (j ∷ js) ks marks =
    ap (λ b. not (is_that so (slice_get marks j)) && b) (was_each_other-append so js ks (slice_set marks j so))
    ∙ and_assoc (not (is_that so (slice_get marks j))) (was_each_other so js (slice_set marks j so)) (was_each_other so ks (with_each js so (slice_set marks j so)))
  where
    and_assoc : (a b c : Bool) → a && (b && c) ≡ a && b && c
    and_assoc true b c = refl
    and_assoc false b c = refl

-- the marks of the members from one on are those of that member, and then of those after it
pub set_goes_on : (so : Bool) (gs : List PlainGroup) (i : ℕ) (g : PlainGroup) (marks : List Bool) → i < length gs → g ≡ get_or gs i g
    → with_each (nacks_of_all (groups (drop i gs))) so marks ≡ with_each (nacks_of_all (groups (drop (i + 1) gs))) so (with_each (nacks_of (scopes g)) so marks)
set_goes_on so gs i g marks h is =
    let rest = groups (drop (i + 1) gs) in
    ap (λ (x : PlainGroups). with_each (nacks_of_all x) so marks) (groups-drop gs i g h is)
    ∙ ap (λ ks. with_each ks so marks) (nacks-groups_and g rest)
    ∙ with_each-append (nacks_of (scopes g)) (nacks_of_all rest) so marks

pub other_goes_on : (so : Bool) (gs : List PlainGroup) (i : ℕ) (g : PlainGroup) (marks : List Bool) → i < length gs → g ≡ get_or gs i g
    → was_each_other so (nacks_of_all (groups (drop i gs))) marks
    ≡ was_each_other so (nacks_of (scopes g)) marks && was_each_other so (nacks_of_all (groups (drop (i + 1) gs))) (with_each (nacks_of (scopes g)) so marks)
other_goes_on so gs i g marks h is =
    let rest = groups (drop (i + 1) gs) in
    ap (λ (x : PlainGroups). was_each_other so (nacks_of_all x) marks) (groups-drop gs i g h is)
    ∙ ap (λ ks. was_each_other so ks marks) (nacks-groups_and g rest)
    ∙ was_each_other-append so (nacks_of (scopes g)) (nacks_of_all rest) marks

-- the answer so far, where a member was so already, and where none was
pub other_fails : (all here rest from whole : Bool) → here ≡ false → from ≡ here && rest → all && from ≡ whole → false && rest ≡ whole
other_fails true here rest from whole e f h = sym (rw e at f) ∙ h
other_fails false here rest from whole e f h = h

pub other_holds : (all here rest from whole : Bool) → here ≡ true → from ≡ here && rest → all && from ≡ whole → all && rest ≡ whole
other_holds all here rest from whole e f h = let g : from ≡ rest = rw e at f in ap (λ b. all && b) (sym g) ∙ h
