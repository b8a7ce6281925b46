use Rattle.std.proofs.Common.{◌≡◌, ◌<◌, ℕ, length}
use Rattle.std.specs.Prelude.{option_and_then, slice_get}
use Rattle.cml_facts.specs.Standings.{IsSpotOf, spot_at, call_of_machine}
use Rattle.cml_facts.proofs.ending.standing.spots_of.Given as goal

-- the spots of the threads so far
abbrev pub invariant-loop-t : goal.invariant-loop-t
invariant-loop-t l = record {
  as_many : length l.spots.items ≡ l.t;
  so_far : (t : ℕ) → t < l.t → IsSpotOf l.hub.course.program (option_and_then call_of_machine (slice_get l.hub.course.machines t)) (spot_at l.spots.items t);
}
