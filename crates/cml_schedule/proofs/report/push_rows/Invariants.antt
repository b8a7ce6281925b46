use Rattle.std.proofs.Common.{◌≡◌, ◌++◌, drop}
use Rattle.std.specs.List.{flat_map}
use Rattle.std.specs.String.{string_bytes}
use Rattle.cml_schedule.specs.Reports.{report_row_line}
use Rattle.cml_schedule.proofs.report.push_rows.Given as goal

abbrev pub invariant-loop-row : goal.invariant-loop-row
invariant-loop-row l = string_bytes l.text ++ flat_map report_row_line (drop l.row-index l.rows) ≡ string_bytes l.fn.text ++ flat_map report_row_line l.rows
