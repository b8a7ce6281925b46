use Rattle.std.proofs.Common.{◌≡◌, ◌≤◌, ◌+◌, ◌-◌, ℕ, length}
use Rattle.cml_index.specs.HeadCounts as spec
use Rattle.cml_index.proofs.head_counts.lengthen.Given as goal

-- the counts are as they were
abbrev pub invariant-loop-counts : goal.invariant-loop-counts
invariant-loop-counts l = record {
  same : (m : ℕ) → spec.count_in l.counts.items m ≡ spec.count_in l.fn.counts.items m;
  grown : length l.fn.counts.items ≤ length l.counts.items;
  sum : spec.all_counts l.counts.items ≡ spec.all_counts l.fn.counts.items;
}

abbrev pub decreases-loop-counts : goal.decreases-loop-counts
decreases-loop-counts l = l.place + 1 - length l.counts.items
