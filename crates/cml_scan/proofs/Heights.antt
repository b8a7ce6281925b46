-- A member lies lower than its list.
use Rattle.std.proofs.Common.{◌≡◌, ℕ, zero, suc, ◌<◌, List, [], ◌∷◌, length, slice_index_or, ap, arith}
use Rattle.cml_value.specs.Group.{PlainGroup, groups}
use Rattle.cml_value.specs.GroupHeights.{group_height, groups_height}

pub member_below : (gs : List PlainGroup) (k : ℕ) (g : PlainGroup) → k < length gs → g ≡ slice_index_or gs k g → group_height g < groups_height (groups gs)
member_below [] k g is at = absurd (omega arith)
member_below (h ∷ gs) zero g is at = let e : group_height g ≡ group_height h = ap group_height at in omega arith
member_below (h ∷ gs) (suc k) g is at = let below : group_height g < groups_height (groups gs) = member_below gs k g (omega arith) at in omega arith
