-- What a monitor shows of a run.
use Rattle.std.specs.Prelude.{ℕ, List, ◌++◌, length, codes}
use Rattle.std.specs.List.{flat_map}
use Rattle.cml_text.specs.Lines.{line}
use Rattle.cml_scan.specs.declared.meet.Meet.{Meet}
use Rattle.cml_scan.specs.Numbers.{spaced, numbers_of}

-- what there is to see after this many items of the schedule: the rows of the table in their order, and the threads that wait, ascending
pub record PlainReport : Type 0 where
  pub at : ℕ
  pub rows : List Meet
  pub waiting : List ℕ

-- a row: the threads and leaves, of a pair the head first
abbrev pub report_row_line : Meet → List ℕ
report_row_line row = line (codes "row" ++ numbers_of row)

-- a thread that waits
abbrev pub wait_line : ℕ → List ℕ
wait_line thread = line (codes "wait" ++ spaced thread)

-- how many items, rows and waiting threads there are, a line for each row, and one for each thread that waits
abbrev pub report_text : PlainReport → List ℕ
report_text r =
    line (codes "report" ++ spaced r.at ++ codes " rows" ++ spaced (length r.rows) ++ codes " waiting" ++ spaced (length r.waiting))
    ++ flat_map report_row_line r.rows
    ++ flat_map wait_line r.waiting
