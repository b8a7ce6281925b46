use Rattle.std.proofs.Common.{◌-◌, ◌≤◌, ◌<◌, ◌+◌, ◌^◌, ℕ, length}
use Rattle.cml_objects.proofs.Counts.{count_under}
use Rattle.cml_objects.proofs.lane.Lane.count_under.Given as goal

-- the count lies between the two, and there is a look for each binary digit of the gap
abbrev pub invariant-loop-low : goal.invariant-loop-low
invariant-loop-low l = record {
  low : l.low ≤ count_under l.bound l.self.places;
  high : count_under l.bound l.self.places ≤ l.high;
  within : l.high ≤ length l.self.places;
  cost : (digits : ℕ) → length l.self.places < 2 ^ digits → (left : ℕ) × (l.high - l.low < 2 ^ left) × (l.tally + left ≤ l.fn.tally + digits);
}

abbrev pub decreases-loop-low : goal.decreases-loop-low
decreases-loop-low l = l.high - l.low
