use Rattle.std.proofs.Common.{◌≡◌, ◌≤◌, ◌+◌, ◌*◌, length, drop}
use Rattle.cml_scan.specs.Scan.{offers_of}
use Rattle.cml_index.specs.Heads.{heads_on}
use Rattle.cml_index.specs.Live.{objects}
use Rattle.cml_index.proofs.Counted.{total, size_on}
use Rattle.cml_index.proofs.counts.count_met.Given as goal

-- those counted, and those of the channels that are left, are all
abbrev pub invariant-loop-i : goal.invariant-loop-i
invariant-loop-i l = record {
  count : l.count + total (λ n. length (heads_on (offers_of l.core.entries.items) n)) (drop l.i (objects l.core.live))
      ≡ total (λ n. length (heads_on (offers_of l.core.entries.items) n)) (objects l.core.live);
  cost : l.tally + 3 * total (size_on (offers_of l.core.entries.items)) (drop l.i (objects l.core.live)) ≤ l.fn.tally + 3 * total (size_on (offers_of l.core.entries.items)) (objects l.core.live);
}
