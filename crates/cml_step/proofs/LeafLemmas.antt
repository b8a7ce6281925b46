-- What a commit hands over agrees with the program.
use Rattle.std.proofs.Common.{◌≡◌, ℕ, zero, suc, true, List, [], ◌∷◌, ◌++◌, map, refl, Some, slice_get}
use Rattle.std.proofs.lemmas.Bool.{and_parts, and_from}
use Rattle.cml_value.specs.Value.{PlainValue, PlainFunction}
use Rattle.cml_value.specs.Group.{PlainGroup, never, leaf, choose, wrap, scope, PlainGroups, no_groups, groups_and, PlainLeaf, wrapped_by, leaves, leaves_of_all}
use Rattle.cml_group.specs.Force.{event_of, events_of}
use Rattle.cml_step.specs.Agrees.{value_agrees, function_agrees, base_agrees, event_agrees, events_agree, functions_agree, all_agree, leaf_agrees}

functions_push : (ns : List ℕ) (gs : List PlainFunction) (f : PlainFunction) → functions_agree ns gs ≡ true → function_agrees ns 1 f ≡ true → functions_agree ns (gs ++ f ∷ []) ≡ true
functions_push ns [] f h g = and_from (function_agrees ns 1 f) true g refl
functions_push ns (x ∷ xs) f h g = let p = and_parts (function_agrees ns 1 x) (functions_agree ns xs) h in and_from _ _ p.0 (functions_push ns xs f p.1 g)

pub values_push : (ns : List ℕ) (vs : List PlainValue) (v : PlainValue) → all_agree ns vs ≡ true → value_agrees ns v ≡ true → all_agree ns (vs ++ v ∷ []) ≡ true
values_push ns [] v h g = and_from (value_agrees ns v) true g refl
values_push ns (x ∷ xs) v h g = let p = and_parts (value_agrees ns x) (all_agree ns xs) h in and_from _ _ p.0 (values_push ns xs v p.1 g)

-- each leaf
abbrev LeavesAgree : List ℕ → List PlainLeaf → Type 0
LeavesAgree ns [] = Unit {0}
LeavesAgree ns (l ∷ ls) = (leaf_agrees ns l ≡ true) × LeavesAgree ns ls

both : (ns : List ℕ) (ls ms : List PlainLeaf) → LeavesAgree ns ls → LeavesAgree ns ms → LeavesAgree ns (ls ++ ms)
both ns [] ms h g = g
both ns (l ∷ ls) ms h g = (h.0, both ns ls ms h.1 g)

wrapped : (ns : List ℕ) (f : PlainFunction) (ls : List PlainLeaf) → LeavesAgree ns ls → function_agrees ns 1 f ≡ true → LeavesAgree ns (map (wrapped_by f) ls)
wrapped ns f [] h g = tt
wrapped ns f (l ∷ ls) h g =
    let p = and_parts (base_agrees ns l.base) (functions_agree ns l.wraps) h.0 in
    (and_from _ _ p.0 (functions_push ns l.wraps f p.1 g), wrapped ns f ls h.1 g)

mutual
  leaves_agree : (ns : List ℕ) (g : PlainGroup) → event_agrees ns (event_of g) ≡ true → LeavesAgree ns (leaves g)
  leaves_agree ns never h = tt
  leaves_agree ns (leaf b) h = (and_from (base_agrees ns b) true h refl, tt)
  leaves_agree ns (choose gs) h = all_leaves_agree ns gs h
  leaves_agree ns (wrap g f) h = let p = and_parts (event_agrees ns (event_of g)) (function_agrees ns 1 f) h in wrapped ns f (leaves g) (leaves_agree ns g p.0) p.1
  leaves_agree ns (scope k g) h = leaves_agree ns g h

  all_leaves_agree : (ns : List ℕ) (gs : PlainGroups) → events_agree ns (events_of gs) ≡ true → LeavesAgree ns (leaves_of_all gs)
  all_leaves_agree ns no_groups h = tt
  all_leaves_agree ns (groups_and g gs) h =
      let p = and_parts (event_agrees ns (event_of g)) (events_agree ns (events_of gs)) h in
      both ns (leaves g) (leaves_of_all gs) (leaves_agree ns g p.0) (all_leaves_agree ns gs p.1)

at : (ns : List ℕ) (ls : List PlainLeaf) (n : ℕ) (l : PlainLeaf) → LeavesAgree ns ls → slice_get ls n ≡ Some l → leaf_agrees ns l ≡ true
at ns [] n l h e = absurd (cc)
at ns (x ∷ ls) zero l h e = cc
at ns (x ∷ ls) (suc n) l h e = at ns ls n l h.1 e

pub leaf_of_group : (ns : List ℕ) (g : PlainGroup) (n : ℕ) (l : PlainLeaf) → event_agrees ns (event_of g) ≡ true → slice_get (leaves g) n ≡ Some l → leaf_agrees ns l ≡ true
leaf_of_group ns g n l h e = at ns (leaves g) n l (leaves_agree ns g h) e
