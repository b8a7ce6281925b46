-- The lines of a report.
use Rattle.std.specs.Prelude.{ℕ, List, ◌++◌, length, codes}
use Rattle.cml_schedule.specs.Reports.{PlainReport, wait_line}
use Rattle.cml_scan.specs.Numbers.{spaced}
use Rattle.cml_text.specs.Lines.{line}
use Rattle.cml_value.specs.declared.number.Tid.{Tid}

-- the first line of a report: after how many items it was made, and how many rows and threads it shows
abbrev pub report_head : PlainReport → List ℕ
report_head r = line (codes "report" ++ spaced r.at ++ codes " rows" ++ spaced (length r.rows) ++ codes " waiting" ++ spaced (length r.waiting))

-- the line of a thread that waits
abbrev pub waits_line : Tid → List ℕ
waits_line t = wait_line t.0
