use Rattle.std.proofs.Common.{◌≡◌, false, drop}
use Rattle.std.specs.List.{list_all}
use Rattle.cml_value.specs.Group.{groups}
use Rattle.cml_value.specs.GroupHeights.{group_height}
use Rattle.cml_book.proofs.Walks.{bases_of_all, nacks_of_all}
use Rattle.cml_book.proofs.walk.+walk_whole.Given as goal

abbrev pub decreases-walk_whole : goal.decreases-walk_whole
decreases-walk_whole g l = group_height l.group.now

-- both answers rest on the members that are left
abbrev pub invariant-loop-g : goal.invariant-loop-g
invariant-loop-g g l =
    (list_all (g.P.BaseTest.passes l.test) (bases_of_all (groups (drop l.g-index l.g-items))) ≡ list_all (g.P.BaseTest.passes l.test) (bases_of_all (groups l.g-items)))
    × (l.scoped ≡ false → list_all (λ k. false) (nacks_of_all (groups (drop l.g-index l.g-items))) ≡ list_all (λ k. false) (nacks_of_all (groups l.g-items)))
