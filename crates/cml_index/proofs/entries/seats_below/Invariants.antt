use Rattle.std.proofs.Common.{◌-◌, ◌≤◌, length}
use Rattle.cml_index.specs.Seats as spec
use Rattle.cml_index.proofs.entries.seats_below.Given as goal

abbrev pub invariant-loop-low : goal.invariant-loop-low
invariant-loop-low l = record {
  low : l.low ≤ spec.count_seats l.tid.0 l.seats;
  high : spec.count_seats l.tid.0 l.seats ≤ l.high;
  within : l.high ≤ length l.seats;
}

abbrev pub decreases-loop-low : goal.decreases-loop-low
decreases-loop-low l = l.high - l.low
