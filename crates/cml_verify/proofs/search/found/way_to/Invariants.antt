use Rattle.std.proofs.Common.{◌≡◌, ◌+◌, ◌<◌, ℕ, length, map}
use Rattle.cml_verify.specs.Searches.{Depths}
use Rattle.cml_verify.proofs.Back.{LeadsBack}
use Rattle.cml_verify.proofs.search.found.way_to.Given as goal

abbrev pub invariant-loop-at : goal.invariant-loop-at
invariant-loop-at g l =
    record {
      within : l.at < length l.found.kept.keys;
      counts : (d : ℕ → ℕ) → Depths l.found.origins.items d → length l.items.items + d l.at ≡ d l.place;
      leads : LeadsBack (g.Y.System.rules l._system) (map (g.Y.System.state_of l._system) l.found.kept.keys) l.items.items l.at l.place;
    }

abbrev pub decreases-loop-at : goal.decreases-loop-at
decreases-loop-at g l = l.at
