use Rattle.std.proofs.Common.{◌≡◌, drop}
use Rattle.cml_value.specs.Group.{groups}
use Rattle.cml_value.specs.GroupHeights.{group_height}
use Rattle.cml_trace.specs.Whys.{missing_in_all}
use Rattle.cml_trace.proofs.missing.+missing_in.Given as goal

abbrev pub decreases-missing_in : goal.decreases-missing_in
decreases-missing_in g l = group_height l.group.now

-- the first that is missing is one of the members that are left
abbrev pub invariant-loop-member : goal.invariant-loop-member
invariant-loop-member g l = missing_in_all l.book (groups (drop l.member-index l.member-items)) ≡ missing_in_all l.book (groups l.member-items)
