use Rattle.std.proofs.Common.{◌≡◌, ◌≤◌, ◌+◌, ◌*◌, map, length, drop}
use Rattle.std.specs.Prelude.{slice_get}
use Rattle.std.specs.List.{filter}
use Rattle.cml_value.specs.Group.{bases}
use Rattle.cml_scan.specs.Order.{place}
use Rattle.cml_scan.specs.Scan.{offers_of, leaves_from}
use Rattle.cml_index.specs.Heads.{is_sought}
use Rattle.cml_index.proofs.heads.seek_in.Given as goal

-- the leaf that is sought is the left-th of those to come
abbrev pub invariant-loop-leaf : goal.invariant-loop-leaf
invariant-loop-leaf l = record {
  same : slice_get (map place (filter (is_sought l.kind l.core.flags.entries (offers_of l.core.entries.items)) (leaves_from l.entry.thread l.leaf (drop l.leaf (bases l.entry.group))))) l.left
      ≡ slice_get (map place (filter (is_sought l.kind l.core.flags.entries (offers_of l.core.entries.items)) (leaves_from l.entry.thread 0 (bases l.entry.group)))) l.k;
  left : l.left + length (filter (is_sought l.kind l.core.flags.entries (offers_of l.core.entries.items)) (leaves_from l.entry.thread 0 (bases l.entry.group)))
      ≡ l.k + length (filter (is_sought l.kind l.core.flags.entries (offers_of l.core.entries.items)) (leaves_from l.entry.thread l.leaf (drop l.leaf (bases l.entry.group))));
  cost : l.tally ≤ l.fn.tally + 3 * l.leaf;
}
