use Rattle.std.proofs.Common.{◌≡◌, ◌≤◌, take}
use Rattle.std.specs.Prelude.{count_by}
use Rattle.cml_explore.specs.Counts.{is_commit}
use Rattle.cml_explore.proofs.shrink.counts.commit_count.Given as goal

-- those so far
abbrev pub invariant-loop-item : goal.invariant-loop-item
invariant-loop-item l = (l.count ≡ count_by is_commit (take l.item-index l.items)) × (l.count ≤ l.item-index)
