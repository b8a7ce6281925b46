use Rattle.std.proofs.Common.{◌≡◌, ◌≤◌, take}
use Rattle.std.specs.Prelude.{count_by}
use Rattle.cml_explore.specs.Told.{is_wait}
use Rattle.cml_explore.proofs.tell.wait_count.Given as goal

-- those so far
abbrev pub invariant-loop-thread : goal.invariant-loop-thread
invariant-loop-thread l = (l.count ≡ count_by (λ t. is_wait t.state) (take l.thread-index l.threads)) × (l.count ≤ l.thread-index)
