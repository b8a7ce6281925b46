use Rattle.std.proofs.Common.{◌≡◌, ◌≤◌, ◌++◌, length, take, drop}
use Rattle.std.specs.List.{flat_map}
use Rattle.cml_scan.specs.Scan.{scan_of, heads_of, partners_of}
use Rattle.cml_stepper.proofs.rows.rows_from.Given as goal

abbrev pub invariant-loop-k : goal.invariant-loop-k
invariant-loop-k g l =
    let all = scan_of (g.T.Table.entries l.table) (g.T.Table.is_lit l.table) in
    record {
      few : length l.rows.items ≤ l.limit;
      so_far : take l.limit (l.rows.items ++ drop l.left (flat_map (partners_of all) (drop l.k (heads_of all)))) ≡ take l.limit (drop l.from all);
    }
