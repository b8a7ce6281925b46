-- The base events of a group, by its parts.
use Rattle.std.proofs.Common.{◌≡◌, List, [], ◌∷◌, ◌++◌, map, refl, ap}
use Rattle.std.proofs.lemmas.List.{map-append}
use Rattle.cml_value.specs.Value.{PlainBase, PlainFunction}
use Rattle.cml_value.specs.Group.{PlainGroup, wrap, PlainGroups, groups_and, PlainLeaf, wrapped_by, leaves, leaves_of_all, bases}

-- the base events of all groups of a list
abbrev pub bases_of_all : PlainGroups → List PlainBase
bases_of_all gs = map (λ l. l.base) (leaves_of_all gs)

bases-wrapped : (f : PlainFunction) (ls : List PlainLeaf) → map (λ l. l.base) (map (wrapped_by f) ls) ≡ map (λ l. l.base) ls
bases-wrapped f [] = refl
bases-wrapped f (l ∷ ls) = ap (λ bs. l.base ∷ bs) (bases-wrapped f ls)

pub bases-wrap : (g : PlainGroup) (f : PlainFunction) → bases (wrap g f) ≡ bases g
bases-wrap g f = bases-wrapped f (leaves g)

pub bases-groups_and : (g : PlainGroup) (gs : PlainGroups) → bases_of_all (groups_and g gs) ≡ bases g ++ bases_of_all gs
bases-groups_and g gs = map-append (λ (l : PlainLeaf). l.base) (leaves g) (leaves_of_all gs)

pub ruleset base_steps = (bases-wrap, bases-groups_and)
