-- What a group keeps as it enters: its leaves in number, its scopes, its depth and its nodes. Only an after changes, and none is left.
use Rattle.std.proofs.Common.{◌≡◌, ℕ, zero, suc, ◌+◌, ◌<◌, Bool, true, false, ◌||◌, max, List, [], ◌∷◌, ◌++◌, length, get_or, map, refl, ap, sym, ◌∙◌, arith}
use Rattle.std.specs.List.{list_any}
use Rattle.std.proofs.lemmas.List.{length-map, map-append}
use Rattle.std.proofs.lemmas.List.Folds.{list_any-append}
use Rattle.cml_value.specs.Value.{PlainBase, after_ticks, PlainFunction}
use Rattle.cml_value.specs.Limits.{base_depth, base_nodes, function_depth, function_nodes, is_within, max_depth, max_nodes}
use Rattle.cml_value.specs.Group.{PlainGroup, never, leaf, choose, wrap, scope, PlainGroups, no_groups, groups_and}
use Rattle.cml_value.specs.Group.{groups, PlainLeaf, wrapped_by, leaves, leaves_of_all, leaf_count, bases}
use Rattle.cml_value.specs.Group.{PlainScope, scopes, scopes_from, scopes_from_all, group_depth, groups_depth}
use Rattle.cml_value.specs.Group.{group_nodes, groups_nodes, group_fits}
use Rattle.cml_book.specs.Entering.{entered_base, entered, entered_all}
use Rattle.cml_book.proofs.Walks.{bases_of_all, bases-groups_and, bases-wrap}

-- the leaf as it enters
abbrev pub entered_leaf : ℕ → PlainLeaf → PlainLeaf
entered_leaf tick l = record { base = entered_base tick l.base; wraps = l.wraps }

entered-wrapped : (tick : ℕ) (f : PlainFunction) (ls : List PlainLeaf) → map (wrapped_by f) (map (entered_leaf tick) ls) ≡ map (entered_leaf tick) (map (wrapped_by f) ls)
entered-wrapped tick f [] = refl
entered-wrapped tick f (l ∷ ls) = ap (λ rest. entered_leaf tick (wrapped_by f l) ∷ rest) (entered-wrapped tick f ls)

-- the leaves of an entered group are those of the group, entered
mutual
  pub leaves-entered : (tick : ℕ) (g : PlainGroup) → leaves (entered tick g) ≡ map (entered_leaf tick) (leaves g)
  leaves-entered tick never = refl
  leaves-entered tick (leaf b) = refl
  leaves-entered tick (choose gs) = leaves-entered_all tick gs
  leaves-entered tick (wrap g f) = ap (map (wrapped_by f)) (leaves-entered tick g) ∙ entered-wrapped tick f (leaves g)
  leaves-entered tick (scope k g) = leaves-entered tick g

  pub leaves-entered_all : (tick : ℕ) (gs : PlainGroups) → leaves_of_all (entered_all tick gs) ≡ map (entered_leaf tick) (leaves_of_all gs)
  leaves-entered_all tick no_groups = refl
  leaves-entered_all tick (groups_and g gs) =
      ap (λ ls. ls ++ leaves_of_all (entered_all tick gs)) (leaves-entered tick g)
      ∙ ap (λ ls. map (entered_leaf tick) (leaves g) ++ ls) (leaves-entered_all tick gs)
      ∙ sym (map-append (entered_leaf tick) (leaves g) (leaves_of_all gs))

pub leaf_count-entered : (tick : ℕ) (g : PlainGroup) → leaf_count (entered tick g) ≡ leaf_count g
leaf_count-entered tick g = ap length (leaves-entered tick g) ∙ length-map (leaves g) (entered_leaf tick)

-- the scopes stay
mutual
  pub scopes_from-entered : (tick n : ℕ) (g : PlainGroup) → scopes_from n (entered tick g) ≡ scopes_from n g
  scopes_from-entered tick n never = refl
  scopes_from-entered tick n (leaf b) = refl
  scopes_from-entered tick n (choose gs) = scopes_from_all-entered tick n gs
  scopes_from-entered tick n (wrap g f) = scopes_from-entered tick n g
  scopes_from-entered tick n (scope k g) =
      let count = leaf_count-entered tick g in
      let rest = scopes_from-entered tick n g in
      ap (λ (c : ℕ). record { nack = k; first = n; past = n + c } ∷ scopes_from n (entered tick g)) count
      ∙ ap (λ (ss : List PlainScope). record { nack = k; first = n; past = n + leaf_count g } ∷ ss) rest

  pub scopes_from_all-entered : (tick n : ℕ) (gs : PlainGroups) → scopes_from_all n (entered_all tick gs) ≡ scopes_from_all n gs
  scopes_from_all-entered tick n no_groups = refl
  scopes_from_all-entered tick n (groups_and g gs) =
      ap (λ (ss : List PlainScope). ss ++ scopes_from_all (n + leaf_count (entered tick g)) (entered_all tick gs)) (scopes_from-entered tick n g)
      ∙ ap (λ (c : ℕ). scopes_from n g ++ scopes_from_all (n + c) (entered_all tick gs)) (leaf_count-entered tick g)
      ∙ ap (λ (ss : List PlainScope). scopes_from n g ++ ss) (scopes_from_all-entered tick (n + leaf_count g) gs)

pub scopes-entered : (tick : ℕ) (g : PlainGroup) → scopes (entered tick g) ≡ scopes g
scopes-entered tick g = scopes_from-entered tick 0 g

base_depth-entered : (tick : ℕ) (b : PlainBase) → base_depth (entered_base tick b) ≡ base_depth b
base_depth-entered tick (after_ticks d) = refl
base_depth-entered tick _ = refl

base_nodes-entered : (tick : ℕ) (b : PlainBase) → base_nodes (entered_base tick b) ≡ base_nodes b
base_nodes-entered tick (after_ticks d) = refl
base_nodes-entered tick _ = refl

mutual
  pub group_depth-entered : (tick : ℕ) (g : PlainGroup) → group_depth (entered tick g) ≡ group_depth g
  group_depth-entered tick never = refl
  group_depth-entered tick (leaf b) = base_depth-entered tick b
  group_depth-entered tick (choose gs) = ap (λ (n : ℕ). n + 1) (groups_depth-entered tick gs)
  group_depth-entered tick (wrap g f) = ap (λ (n : ℕ). max n (function_depth f) + 1) (group_depth-entered tick g)
  group_depth-entered tick (scope k g) = ap (λ (n : ℕ). n + 1) (group_depth-entered tick g)

  pub groups_depth-entered : (tick : ℕ) (gs : PlainGroups) → groups_depth (entered_all tick gs) ≡ groups_depth gs
  groups_depth-entered tick no_groups = refl
  groups_depth-entered tick (groups_and g gs) =
      ap (λ (n : ℕ). max n (groups_depth (entered_all tick gs))) (group_depth-entered tick g)
      ∙ ap (λ (n : ℕ). max (group_depth g) n) (groups_depth-entered tick gs)

mutual
  pub group_nodes-entered : (tick : ℕ) (g : PlainGroup) → group_nodes (entered tick g) ≡ group_nodes g
  group_nodes-entered tick never = refl
  group_nodes-entered tick (leaf b) = base_nodes-entered tick b
  group_nodes-entered tick (choose gs) = ap (λ (n : ℕ). n + 1) (groups_nodes-entered tick gs)
  group_nodes-entered tick (wrap g f) = ap (λ (n : ℕ). n + function_nodes f + 1) (group_nodes-entered tick g)
  group_nodes-entered tick (scope k g) = ap (λ (n : ℕ). n + 1) (group_nodes-entered tick g)

  pub groups_nodes-entered : (tick : ℕ) (gs : PlainGroups) → groups_nodes (entered_all tick gs) ≡ groups_nodes gs
  groups_nodes-entered tick no_groups = refl
  groups_nodes-entered tick (groups_and g gs) =
      ap (λ (n : ℕ). n + groups_nodes (entered_all tick gs)) (group_nodes-entered tick g)
      ∙ ap (λ (n : ℕ). group_nodes g + n) (groups_nodes-entered tick gs)

pub group_fits-entered : (tick : ℕ) (g : PlainGroup) → group_fits (entered tick g) ≡ group_fits g
group_fits-entered tick g =
    ap (λ (n : ℕ). is_within max_depth max_nodes n (group_nodes (entered tick g))) (group_depth-entered tick g)
    ∙ ap (λ (n : ℕ). is_within max_depth max_nodes (group_depth g) n) (group_nodes-entered tick g)

-- the entered members of a choice, as one term
pub groups-entered : (tick : ℕ) (gs : List PlainGroup) → groups (map (entered tick) gs) ≡ entered_all tick (groups gs)
groups-entered tick [] = refl
groups-entered tick (g ∷ gs) = ap (λ (x : PlainGroups). groups_and (entered tick g) x) (groups-entered tick gs)

neither_left : (a b : Bool) → (a || b) ≡ false → a ≡ false
neither_left true b h = h
neither_left false b h = refl

neither_right : (a b : Bool) → (a || b) ≡ false → b ≡ false
neither_right true b h = cc
neither_right false b h = h

-- where no base of the members is far, none of a member is
pub near_member : (p : PlainBase → Bool) (gs : List PlainGroup) (i : ℕ) (g : PlainGroup) → i < length gs → g
    ≡ get_or gs i g → list_any p (bases_of_all (groups gs)) ≡ false → list_any p (bases g) ≡ false
near_member p [] i g h is none = absurd (omega arith)
near_member p (x ∷ gs) zero g h is none =
    let both = sym (list_any-append p (bases x) (bases_of_all (groups gs))) ∙ sym (ap (list_any p) (bases-groups_and x (groups gs))) ∙ none in
    ap (λ (y : PlainGroup). list_any p (bases y)) is ∙ neither_left _ _ both
near_member p (x ∷ gs) (suc i) g h is none =
    let both = sym (list_any-append p (bases x) (bases_of_all (groups gs))) ∙ sym (ap (list_any p) (bases-groups_and x (groups gs))) ∙ none in
    near_member p gs i g (omega arith) is (neither_right _ _ both)

pub ruleset entered_steps = (bases-wrap, groups-entered)
