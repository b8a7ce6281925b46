use Rattle.std.proofs.Common.{◌≡◌, ◌≤◌, ◌++◌, length, take, drop}
use Rattle.cml_scan.specs.Scan.{scan_of, partners_of}
use Rattle.cml_stepper.proofs.rows.push_partners.Given as goal

abbrev pub invariant-loop-j : goal.invariant-loop-j
invariant-loop-j g l =
    let own = partners_of (scan_of (g.T.Table.entries l.table) (g.T.Table.is_lit l.table)) l.head in
    record {
      few : length l.rows.items ≤ l.limit;
      so_far : take l.limit (l.rows.items ++ drop l.j own) ≡ take l.limit (l.fn.rows.items ++ drop l.from own);
    }
