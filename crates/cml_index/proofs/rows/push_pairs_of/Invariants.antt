use Rattle.std.proofs.Common.{◌≡◌, ◌++◌, drop}
use Rattle.std.specs.List.{flat_map}
use Rattle.cml_value.specs.Group.{bases}
use Rattle.cml_scan.specs.Scan.{pairs_with, offers_of, leaves_from}
use Rattle.cml_index.proofs.rows.push_pairs_of.Given as goal

-- what was put there, and the rows of the leaves that are left, are the rows of all
abbrev pub invariant-loop-leaf : goal.invariant-loop-leaf
invariant-loop-leaf l = l.rows.items ++ flat_map (pairs_with (offers_of l.core.entries.items)) (leaves_from l.entry.thread l.leaf (drop l.leaf (bases l.entry.group)))
    ≡ l.fn.rows.items ++ flat_map (pairs_with (offers_of l.core.entries.items)) (leaves_from l.entry.thread 0 (bases l.entry.group))
