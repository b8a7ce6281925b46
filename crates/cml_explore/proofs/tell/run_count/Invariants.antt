use Rattle.std.proofs.Common.{◌≡◌, ◌≤◌, take}
use Rattle.std.specs.Prelude.{count_by}
use Rattle.cml_explore.specs.Told.{is_run}
use Rattle.cml_explore.proofs.tell.run_count.Given as goal

-- those so far
abbrev pub invariant-loop-thread : goal.invariant-loop-thread
invariant-loop-thread l = (l.count ≡ count_by (λ t. is_run t.state) (take l.thread-index l.threads)) × (l.count ≤ l.thread-index)
