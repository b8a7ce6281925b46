-- Groups worked by hand: their leaves, the functions over each, and the nacks that fire. No call of this crate is about them.
use Rattle.std.proofs.Common.{◌≡◌, [], ◌∷◌, refl}
use Rattle.cml_value.specs.Value.{PlainFunction, function, no_values, recv, always, unit}
use Rattle.cml_value.specs.Group.{PlainGroup, never, leaf, choose, wrap, scope, groups, leaves, bases, lost}

-- a function without captured values
abbrev f : PlainFunction
f = function 1 no_values

abbrev g : PlainFunction
g = function 2 no_values

-- under two wraps: the inner function runs first
pub nested_wraps : leaves (wrap (wrap (leaf (recv 0)) f) g) ≡ record { base = recv 0; wraps = f ∷ g ∷ [] } ∷ []
nested_wraps = refl

-- a wrap stands over all members of its choice, and over none beside it; never has no leaf
pub wrapped_choice : leaves (choose (groups (wrap (choose (groups (leaf (recv 0) ∷ never ∷ leaf (recv 1) ∷ []))) f ∷ leaf (recv 2) ∷ [])))
    ≡ record { base = recv 0; wraps = f ∷ [] } ∷ record { base = recv 1; wraps = f ∷ [] } ∷ record { base = recv 2; wraps = [] } ∷ []
wrapped_choice = refl

-- the branch of 0 has both leaves, that of 1 the second alone
abbrev nested : PlainGroup
nested = scope 0 (choose (groups (leaf (recv 0) ∷ scope 1 (leaf (recv 1)) ∷ [])))

pub inner_branch_left_out : lost nested 0 ≡ 1 ∷ []
inner_branch_left_out = refl

pub no_branch_left_out : lost nested 1 ≡ []
no_branch_left_out = refl

-- beside a choice of one leaf stand a branch without leaves, and a branch with a branch in it
abbrev beside : PlainGroup
beside = choose (groups (leaf (always unit) ∷ scope 3 never ∷ scope 5 (wrap (choose (groups (leaf (recv 0) ∷ scope 4 (leaf (recv 1)) ∷ []))) f) ∷ []))

pub all_branches_left_out : lost beside 0 ≡ 3 ∷ 5 ∷ 4 ∷ []
all_branches_left_out = refl

pub branch_of_the_first : lost beside 1 ≡ 3 ∷ 4 ∷ []
branch_of_the_first = refl

pub branch_without_leaves : lost beside 2 ≡ 3 ∷ []
branch_without_leaves = refl

pub bases_in_order : bases beside ≡ always unit ∷ recv 0 ∷ recv 1 ∷ []
bases_in_order = refl
