use Rattle.std.proofs.Common.{◌≡◌, ◌+◌, ◌<◌, ◌≤◌, ℕ, length}
use Rattle.cml_verify.specs.Searches.{Depths}
use Rattle.cml_verify.proofs.search.found.reach.Given as goal

abbrev pub invariant-loop-at : goal.invariant-loop-at
invariant-loop-at g l =
    record {
      within : l.at < length l.found.kept.keys;
      few : l.count + l.at ≤ l.found.followed;
      counts : (d : ℕ → ℕ) → Depths l.found.origins.items d → l.count + d l.at ≡ d l.found.followed;
    }

abbrev pub decreases-loop-at : goal.decreases-loop-at
decreases-loop-at g l = l.at
