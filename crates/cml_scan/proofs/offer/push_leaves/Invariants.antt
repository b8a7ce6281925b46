use Rattle.std.proofs.Common.{◌≡◌, ◌≤◌, ◌++◌, drop, take, length}
use Rattle.cml_scan.specs.Scan.{leaves_from}
use Rattle.cml_scan.proofs.offer.push_leaves.Given as goal

-- what was put there, and what is left, are the leaves of all, after those that stood there
abbrev pub invariant-loop-leaf : goal.invariant-loop-leaf
invariant-loop-leaf l = record {
  told : l.offers.items ++ leaves_from l.tid.0 l.leaf (drop l.leaf l.bases) ≡ l.fn.offers.items ++ leaves_from l.tid.0 0 l.bases;
  more : length l.fn.offers.items ≤ length l.offers.items;
  kept : take (length l.fn.offers.items) l.offers.items ≡ l.fn.offers.items;
}
