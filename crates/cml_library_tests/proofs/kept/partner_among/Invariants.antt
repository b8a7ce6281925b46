use Rattle.std.proofs.Common.{◌≡◌, ◌<◌, drop, length}
use Rattle.std.specs.Prelude.{slice_get}
use Rattle.cml_scan.specs.Scan.{partners_of}
use Rattle.cml_library_tests.proofs.kept.partner_among.Given as goal

-- the row that is sought is the left-th of the partners to come
abbrev pub invariant-loop-row : goal.invariant-loop-row
invariant-loop-row l = record {
  more : l.left < length (partners_of (drop l.row-index l.rows) l.head);
  same : slice_get (partners_of (drop l.row-index l.rows) l.head) l.left ≡ slice_get (partners_of l.rows l.head) l.j;
}
