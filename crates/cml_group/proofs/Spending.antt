-- The depth and the nodes of groups that stand in two lists.
use Rattle.std.proofs.Common.{◌≡◌, ℕ, ◌+◌, ◌<◌, max, List, [], ◌∷◌, ◌++◌, length, get_or, drop, ap, sym, ◌∙◌, arith, suc, add-one}
use Rattle.std.specs.List.{flat_map}
use Rattle.std.proofs.Math.Seq.{drop-cons}
use Rattle.cml_value.specs.Group.{PlainGroup, groups, groups_depth, groups_nodes}

pub groups_depth_append : (gs hs : List PlainGroup) → groups_depth (groups (gs ++ hs)) ≡ max (groups_depth (groups gs)) (groups_depth (groups hs))
groups_depth_append [] hs = omega arith
groups_depth_append (g ∷ gs) hs = omega (arith, groups_depth_append gs hs)

pub groups_nodes_append : (gs hs : List PlainGroup) → groups_nodes (groups (gs ++ hs)) ≡ groups_nodes (groups gs) + groups_nodes (groups hs)
groups_nodes_append [] hs = omega arith
groups_nodes_append (g ∷ gs) hs = omega (arith, groups_nodes_append gs hs)

pub ruleset appended = (groups_depth_append, groups_nodes_append)

-- the groups of the pieces to come begin with those of the piece of this number
pub pieces_next : {X : Type 0} (f : X → List PlainGroup) (ps : List X) (i : ℕ) (p : X) → i < length ps → p ≡ get_or ps i p →
    flat_map f (drop i ps) ≡ f p ++ flat_map f (drop (i + 1) ps)
pieces_next f ps i p h is = rw add-one (ap (flat_map f) (drop-cons ps i p h ∙ ap (λ x. x ∷ drop (suc i) ps) (sym is)))

pub pieces_depth : {X : Type 0} (f : X → List PlainGroup) (ps : List X) (i : ℕ) (p : X) → i < length ps → p ≡ get_or ps i p →
    groups_depth (groups (flat_map f (drop i ps))) ≡ max (groups_depth (groups (f p))) (groups_depth (groups (flat_map f (drop (i + 1) ps))))
pieces_depth f ps i p h is = ap (λ l. groups_depth (groups l)) (pieces_next f ps i p h is) ∙ groups_depth_append (f p) _

pub pieces_nodes : {X : Type 0} (f : X → List PlainGroup) (ps : List X) (i : ℕ) (p : X) → i < length ps → p ≡ get_or ps i p →
    groups_nodes (groups (flat_map f (drop i ps))) ≡ groups_nodes (groups (f p)) + groups_nodes (groups (flat_map f (drop (i + 1) ps)))
pieces_nodes f ps i p h is = ap (λ l. groups_nodes (groups l)) (pieces_next f ps i p h is) ∙ groups_nodes_append (f p) _
