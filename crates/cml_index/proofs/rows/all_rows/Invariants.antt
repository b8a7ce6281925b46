use Rattle.std.proofs.Common.{◌≡◌, ◌++◌, drop, map}
use Rattle.std.specs.List.{filter, flat_map}
use Rattle.cml_scan.specs.Light.{lit_by}
use Rattle.cml_scan.specs.Scan.{single, pairs_with, offers_of, scan_of}
use Rattle.cml_index.specs.Posts as spec
use Rattle.cml_index.specs.Seats.{seated}
use Rattle.cml_index.proofs.rows.all_rows.Given as goal

-- what was put there, and the rows that are left, are those of all leaves that can be taken alone
abbrev pub invariant-loop-seat : goal.invariant-loop-seat
invariant-loop-seat l = l.rows.items ++ map single (filter (λ o. lit_by (spec.told l.core.flags.entries) o.base) (offers_of (seated (drop l.seat-index l.seats))))
    ≡ map single (filter (λ o. lit_by (spec.told l.core.flags.entries) o.base) (offers_of l.core.entries.items))

-- what was put there, and the rows of the threads that are left, are all rows
abbrev pub invariant-loop-seat-2 : goal.invariant-loop-seat-2
invariant-loop-seat-2 l = l.rows.items ++ flat_map (pairs_with (offers_of l.core.entries.items)) (offers_of (seated (drop l.seat-index l.seats)))
    ≡ scan_of l.core.entries.items (spec.told l.core.flags.entries)
