use Rattle.std.proofs.Common.{◌≡◌, ◌&&◌, drop}
use Rattle.cml_value.specs.Group.{groups}
use Rattle.cml_value.specs.GroupHeights.{group_height}
use Rattle.cml_book.specs.Sync.{with_each}
use Rattle.cml_book.specs.NackMarks.{was_each_other}
use Rattle.cml_book.proofs.Walks.{nacks_of_all}
use Rattle.cml_book.proofs.marks.+set_each.Given as goal

abbrev pub decreases-set_each : goal.decreases-set_each
decreases-set_each l = group_height l.group.now

-- what is left to set leads where all lead, and the answer rests on it
abbrev pub invariant-loop-g : goal.invariant-loop-g
invariant-loop-g l = record {
  leads : with_each (nacks_of_all (groups (drop l.g-index l.g-items))) l.so l.marks.items ≡ with_each (nacks_of_all (groups l.g-items)) l.so l.fn.marks.items;
  other : l.all && was_each_other l.so (nacks_of_all (groups (drop l.g-index l.g-items))) l.marks.items ≡ was_each_other l.so (nacks_of_all (groups l.g-items)) l.fn.marks.items;
}
