-- Walks over the members of a choice.
use Rattle.std.proofs.Common.{◌≡◌, ℕ, ◌+◌, suc, ◌<◌, get_or, drop, drop-cons, add-one, sym, List, length, ap, ◌∙◌}
use Rattle.cml_value.specs.Group.{PlainGroup, groups, groups_and}

-- the groups from a member on are that member and those after it
groups-drop : (gs : List PlainGroup) (i : ℕ) (g : PlainGroup) → i < length gs → g ≡ get_or gs i g → groups (drop i gs) ≡ groups_and g (groups (drop (i + 1) gs))
groups-drop gs i g h is = rw add-one (ap groups (drop-cons gs i g h) ∙ ap (λ x. groups_and x (groups (drop (suc i) gs))) (sym is))
