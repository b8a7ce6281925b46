use Rattle.std.proofs.Common.{◌≡◌, ◌++◌, drop, map}
use Rattle.cml_scan.specs.Scan.{firsts_after, heads_of, place_of}
use Rattle.cml_library_tests.proofs.kept.heads.Given as goal

-- the heads so far, and the new ones of the rows that are left, are the heads of all
abbrev pub invariant-loop-row : goal.invariant-loop-row
invariant-loop-row l = l.heads.items ++ firsts_after l.heads.items (map place_of (drop l.row-index l.rows)) ≡ heads_of l.rows
