use Rattle.std.proofs.Common.{◌≡◌, drop}
use Rattle.cml_value.specs.Group.{groups}
use Rattle.cml_value.specs.GroupHeights.{group_height}
use Rattle.cml_trace.specs.Whys.{stale_in_all}
use Rattle.cml_trace.proofs.missing.+stale_in.Given as goal

abbrev pub decreases-stale_in : goal.decreases-stale_in
decreases-stale_in g l = group_height l.group.now

-- the first that is stale is one of the members that are left
abbrev pub invariant-loop-member : goal.invariant-loop-member
invariant-loop-member g l = stale_in_all l.book l.thread.0 (groups (drop l.member-index l.member-items)) ≡ stale_in_all l.book l.thread.0 (groups l.member-items)
