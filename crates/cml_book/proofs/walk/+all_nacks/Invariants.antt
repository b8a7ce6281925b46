use Rattle.std.proofs.Common.{◌≡◌, drop}
use Rattle.std.specs.List.{list_all}
use Rattle.cml_value.specs.Group.{groups}
use Rattle.cml_value.specs.GroupHeights.{group_height}
use Rattle.cml_book.proofs.Walks.{nacks_of_all}
use Rattle.cml_book.proofs.walk.+all_nacks.Given as goal

abbrev pub decreases-all_nacks : goal.decreases-all_nacks
decreases-all_nacks g l = group_height l.group.now

-- the answer rests on the members that are left
abbrev pub invariant-loop-g : goal.invariant-loop-g
invariant-loop-g g l = list_all (g.P.NackTest.passes l.test) (nacks_of_all (groups (drop l.g-index l.g-items))) ≡ list_all (g.P.NackTest.passes l.test) (nacks_of_all (groups l.g-items))
