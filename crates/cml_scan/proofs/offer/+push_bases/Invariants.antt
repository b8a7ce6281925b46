use Rattle.std.proofs.Common.{◌≡◌, ◌++◌, drop}
use Rattle.cml_value.specs.Group.{groups}
use Rattle.cml_value.specs.GroupHeights.{group_height}
use Rattle.cml_scan.proofs.Bases.{bases_of_all}
use Rattle.cml_scan.proofs.offer.+push_bases.Given as goal

-- what was put there, and what is left, are the bases of all members
abbrev pub invariant-loop-member : goal.invariant-loop-member
invariant-loop-member l = l.all.items ++ bases_of_all (groups (drop l.member-index l.member-items)) ≡ l.fn.all.items ++ bases_of_all (groups l.member-items)

abbrev pub decreases-push_bases : goal.decreases-push_bases
decreases-push_bases l = group_height l.group.now
