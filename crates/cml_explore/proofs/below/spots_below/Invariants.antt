use Rattle.std.proofs.Common.{◌≡◌, ◌<◌, ℕ, length}
use Rattle.cml_facts.specs.Standings.{IsSpotOf, spot_at}
use Rattle.cml_facts.specs.FallViews.{fall_in}
use Rattle.cml_explore.specs.Sights.{call_below}
use Rattle.cml_explore.proofs.below.spots_below.Given as goal

-- the spots of the threads so far
abbrev pub invariant-loop-t : goal.invariant-loop-t
invariant-loop-t l = record {
  as_many : length l.spots.items ≡ l.t;
  so_far : (t : ℕ) → t < l.t → IsSpotOf l.hub.course.program (call_below (fall_in l.falls t)) (spot_at l.spots.items t);
}
