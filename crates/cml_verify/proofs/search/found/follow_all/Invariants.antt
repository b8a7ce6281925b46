use Rattle.std.proofs.Common.{◌≤◌, Bool, [], length, map, take}
use Rattle.std.specs.List.{All}
use Rattle.cml_verify.specs.Systems.{LeadsTo, LeadsInto}
use Rattle.cml_verify.specs.Searches.{Keeps, IsLonger, IsBroad, AreEdges}
use Rattle.cml_verify.proofs.search.found.follow_all.Given as goal

abbrev pub invariant-loop-item : goal.invariant-loop-item
invariant-loop-item g l =
    let y = g.Y.System.rules l.system in
    let f = g.Y.System.state_of l.system in
    record {
      keeps : Keeps y (map f l.found.kept.keys) l.found.origins.items;
      longer : IsLonger (map f l.fn.found.kept.keys) (map f l.found.kept.keys);
      leads : LeadsTo y l.schedule (λ s. All (LeadsInto y (map f l.found.kept.keys) s) (take l.item-index l.items));
      broad : (q : Bool) → IsBroad y q l.at (map f l.fn.found.kept.keys) l.fn.found.origins.items [] → IsBroad y q l.at (map f l.found.kept.keys) l.found.origins.items (take l.item-index l.items);
      edges : (q : Bool) → AreEdges y q l.at (map f l.fn.found.kept.keys) l.fn.found.edges.items [] → AreEdges y q l.at (map f l.found.kept.keys) l.found.edges.items (take l.item-index l.items);
      bounded : length l.found.kept.keys ≤ l.bound;
    }
