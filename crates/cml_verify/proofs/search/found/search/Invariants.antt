use Rattle.std.proofs.Common.{◌≤◌, ◌-◌, [], length, map, take}
use Rattle.std.specs.List.{All}
use Rattle.cml_verify.specs.Searches.{IsSearch, WasFollowed, AreEdges}
use Rattle.cml_verify.proofs.search.found.search.Given as goal

abbrev pub invariant-loop-at : goal.invariant-loop-at
invariant-loop-at g l =
    let y = g.Y.System.rules l.system in
    let states = map (g.Y.System.state_of l.system) l.found.kept.keys in
    record {
      search : IsSearch y l.quietly l.at states l.found.origins.items;
      edges : AreEdges y l.quietly l.at states l.found.edges.items [];
      done : All (WasFollowed y l.quietly states) (take l.at states);
      within : l.at ≤ length l.found.kept.keys;
      bounded : length l.found.kept.keys ≤ l.bound;
    }

abbrev pub decreases-loop-at : goal.decreases-loop-at
decreases-loop-at g l = l.bound - l.at
