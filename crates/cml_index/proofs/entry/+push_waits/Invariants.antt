use Rattle.std.proofs.Common.{◌≡◌, ◌++◌, drop}
use Rattle.cml_value.specs.Group.{groups}
use Rattle.cml_value.specs.GroupHeights.{group_height}
use Rattle.cml_index.proofs.Waits.{waits_of_all}
use Rattle.cml_index.proofs.Scopes.{nacks_of_all}
use Rattle.cml_index.proofs.entry.+push_waits.Given as goal

-- what was put there, and what is left, are what the leaves of all members wait for, and the nacks of all members
abbrev pub invariant-loop-member : goal.invariant-loop-member
invariant-loop-member l = record {
  waits : l.all.items ++ waits_of_all (groups (drop l.member-index l.member-items)) ≡ l.fn.all.items ++ waits_of_all (groups l.member-items);
  nacks : l.nacks.items ++ nacks_of_all (groups (drop l.member-index l.member-items)) ≡ l.fn.nacks.items ++ nacks_of_all (groups l.member-items);
}

abbrev pub decreases-push_waits : goal.decreases-push_waits
decreases-push_waits l = group_height l.group.now
