use Rattle.std.proofs.Common.{take}
use Rattle.std.specs.List.{All}
use Rattle.cml_verify.specs.Falling.{FallsFrom, EdgeIsNoted}
use Rattle.cml_verify.proofs.faults.places_of_faults.Given as goal

abbrev pub invariant-loop-edge : goal.invariant-loop-edge
invariant-loop-edge l =
    let p = l.system.program in
    let s = l.system.with_output in
    let keys = l.found.kept.keys in
    record {
      each : All (FallsFrom p s keys) l.told.items;
      noted : All (EdgeIsNoted p s keys l.told.items) (take l.edge-index l.found.edges.items);
    }
