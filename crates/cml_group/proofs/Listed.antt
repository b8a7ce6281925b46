-- The leaves of a group that is flat as it stands; and that all leaves of any other are listed.
use Rattle.std.proofs.Common.{◌≡◌, ℕ, zero, suc, ◌+◌, ◌<◌, true, Option, Some, None, List, [], ◌∷◌, length, filter, refl, ap, ◌∙◌, arith}
use Rattle.std.proofs.lemmas.Bool.{false≢true, and_parts}
use Rattle.std.specs.Option.{option_map}
use Rattle.std.specs.List.{slice_get}
use Rattle.cml_value.specs.Value.{PlainBase, PlainFunction}
use Rattle.cml_value.specs.Group.{PlainGroup, leaf, choose, PlainGroups, no_groups, groups_and, groups, PlainLeaf, PlainScope, leaf_count, scopes, scopes_from_all, nacks_of, lies_outside, lost}
use Rattle.cml_value.specs.GroupViews.{plain_group}
use Rattle.cml_value.specs.declared.value.Base.{Base}
use Rattle.cml_value.specs.declared.group.GroupKind.{GroupKind}
use Rattle.cml_value.specs.declared.group.GroupKind.TheVariants as group_kind
use Rattle.cml_group.specs.LaidOut.{is_bare, are_bare_leaves, is_flat}
use Rattle.cml_group.specs.Leaves.{pick, leaf_base, leaf_wraps}

-- a choice among base events without a value has a leaf for each member
pub bare_count : (gs : List PlainGroup) → are_bare_leaves (groups gs) ≡ true → leaf_count (choose (groups gs)) ≡ length gs
bare_count [] h = refl
bare_count (leaf b ∷ gs) h = omega (arith, bare_count gs (and_parts (is_bare b) (are_bare_leaves (groups gs)) h).1)
bare_count (_ ∷ gs) h = absurd (false≢true h)

-- each member is a base event
pub bare_at : (gs : List PlainGroup) (n : ℕ) → are_bare_leaves (groups gs) ≡ true → n < length gs → (b : PlainBase) × (slice_get gs n ≡ Some (leaf b)) × (is_bare b ≡ true)
bare_at [] n h k = absurd (omega arith)
bare_at (leaf b ∷ gs) zero h k = (b, refl, (and_parts (is_bare b) (are_bare_leaves (groups gs)) h).0)
bare_at (leaf b ∷ gs) (suc n) h k = bare_at gs n (and_parts (is_bare b) (are_bare_leaves (groups gs)) h).1 (omega arith)
bare_at (_ ∷ gs) n h k = absurd (false≢true h)

-- and the leaf of a number is the member of that number
pub bare_base : (gs : List PlainGroup) (n : ℕ) (b : PlainBase) → are_bare_leaves (groups gs) ≡ true → slice_get gs n ≡ Some (leaf b) → leaf_base (choose (groups gs)) n ≡ Some b
bare_base [] n b h e = cc
bare_base (leaf a ∷ gs) zero b h e = cc
bare_base (leaf a ∷ gs) (suc n) b h e = bare_base gs n b (and_parts (is_bare a) (are_bare_leaves (groups gs)) h).1 e
bare_base (_ ∷ gs) n b h e = absurd (false≢true h)

-- whose functions are none
wraps_of_bare : (gs : PlainGroups) (n : ℕ) → are_bare_leaves gs ≡ true → n < leaf_count (choose gs) → leaf_wraps (choose gs) n ≡ Some []
wraps_of_bare no_groups n h k = absurd (omega arith)
wraps_of_bare (groups_and (leaf b) gs) zero h k = refl
wraps_of_bare (groups_and (leaf b) gs) (suc n) h k = wraps_of_bare gs n (and_parts (is_bare b) (are_bare_leaves gs) h).1 (omega arith)
wraps_of_bare (groups_and _ gs) n h k = absurd (false≢true h)

pub flat_wraps : (g : PlainGroup) (n : ℕ) → is_flat g ≡ true → n < leaf_count g → leaf_wraps g n ≡ Some []
flat_wraps (leaf b) zero h k = refl
flat_wraps (leaf b) (suc n) h k = absurd (omega arith)
flat_wraps (choose gs) n h k = wraps_of_bare gs n h k
flat_wraps _ n h k = absurd (false≢true h)

-- such a group has no scopes
scopes_of_bare : (k : ℕ) (gs : PlainGroups) → are_bare_leaves gs ≡ true → scopes_from_all k gs ≡ []
scopes_of_bare k no_groups h = refl
scopes_of_bare k (groups_and (leaf b) gs) h = scopes_of_bare (k + leaf_count (leaf b)) gs (and_parts (is_bare b) (are_bare_leaves gs) h).1
scopes_of_bare k (groups_and _ gs) h = absurd (false≢true h)

pub flat_scopes : (g : PlainGroup) → is_flat g ≡ true → scopes g ≡ []
flat_scopes (leaf b) h = refl
flat_scopes (choose gs) h = scopes_of_bare 0 gs h
flat_scopes _ h = absurd (false≢true h)

pub flat_lost : (g : PlainGroup) (n : ℕ) → is_flat g ≡ true → lost g n ≡ []
flat_lost g n h = ap (λ (ss : List PlainScope). nacks_of (filter (lies_outside n) ss)) (flat_scopes g h)

-- a leaf of a group that is flat as it stands is its base event
parts : (o : Option PlainLeaf) (b : PlainBase) (fs : List PlainFunction) → option_map (λ l. l.base) o ≡ Some b → option_map (λ l. l.wraps) o ≡ Some fs → o ≡ Some (record { base = b; wraps = fs })
parts None b fs e f = cc
parts (Some l) b fs e f =
    let p : l.base ≡ b = cc in
    let q : l.wraps ≡ fs = cc in
    ap (λ (x : PlainBase). Some (record { base = x; wraps = l.wraps })) p ∙ ap (λ (xs : List PlainFunction). Some (record { base = b; wraps = xs })) q

pub flat_leaf : (g : PlainGroup) (n : ℕ) (b : PlainBase) → is_flat g ≡ true → n < leaf_count g → leaf_base g n ≡ Some b → pick g n ≡ Some (record { base = b; wraps = [] })
flat_leaf g n b e h at = parts (pick g n) b [] at (flat_wraps g n e h)

-- a group that is a base event is of that kind
pub leaf_kind : (k : GroupKind) (b : PlainBase) → plain_group k ≡ leaf b → ((x : Base) → k ≡ group_kind.Leaf x → ⊥) → ⊥
leaf_kind (group_kind.Leaf x) b e n = n x refl
leaf_kind _ b e n = cc
