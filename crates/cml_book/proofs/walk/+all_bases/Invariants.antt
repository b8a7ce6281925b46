use Rattle.std.proofs.Common.{◌≡◌, drop}
use Rattle.std.specs.List.{list_all}
use Rattle.cml_value.specs.Group.{groups}
use Rattle.cml_value.specs.GroupHeights.{group_height}
use Rattle.cml_book.proofs.Walks.{bases_of_all}
use Rattle.cml_book.proofs.walk.+all_bases.Given as goal

abbrev pub decreases-all_bases : goal.decreases-all_bases
decreases-all_bases g l = group_height l.group.now

-- the answer rests on the members that are left
abbrev pub invariant-loop-g : goal.invariant-loop-g
invariant-loop-g g l = list_all (g.P.BaseTest.passes l.test) (bases_of_all (groups (drop l.g-index l.g-items))) ≡ list_all (g.P.BaseTest.passes l.test) (bases_of_all (groups l.g-items))
