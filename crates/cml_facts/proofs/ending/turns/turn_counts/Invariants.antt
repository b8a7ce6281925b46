use Rattle.std.proofs.Common.{◌≡◌, ◌<◌, ℕ, length, take, get_or}
use Rattle.cml_facts.specs.Lefts.{turn_count}
use Rattle.cml_facts.proofs.ending.turns.turn_counts.Given as goal

-- the turns among the items so far are counted
abbrev pub invariant-loop-item : goal.invariant-loop-item
invariant-loop-item l = record {
  same : length l.counts.items ≡ l.threads;
  so_far : (t : ℕ) → t < l.threads → get_or l.counts.items t 0 ≡ turn_count (take l.item-index l.items) t;
}
