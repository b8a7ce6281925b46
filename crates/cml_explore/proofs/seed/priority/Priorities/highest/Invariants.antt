use Rattle.std.proofs.Common.{◌≡◌, ◌≤◌, drop, length}
use Rattle.cml_explore.specs.Priorities.{highest}
use Rattle.cml_explore.proofs.seed.priority.Priorities.highest.Given as goal

-- the best of those behind
abbrev pub invariant-threads : goal.invariant-threads
invariant-threads l = record {
  within : l.left ≤ length l.threads;
  best : l.best ≡ highest l.self (drop l.left l.threads);
}

abbrev pub decreases-threads : goal.decreases-threads
decreases-threads l = l.left
