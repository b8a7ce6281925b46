use Rattle.std.proofs.Common.{◌≡◌, take}
use Rattle.std.specs.List.{flat_map}
use Rattle.cml_schedule.specs.Reports.{report_row_line}
use Rattle.cml_stream.specs.Streams.{stream, Takes}
use Rattle.cml_work.proofs.reports.send_rows.Given as goal

-- the lines so far were written
abbrev pub invariant-loop-row : goal.invariant-loop-row
invariant-loop-row g l =
    Takes (stream (g.W.Write.contents l.fn.writer.stream.now) (g.W.Write.contents l.writer.stream.now)) (flat_map report_row_line (take l.row-index l.rows))
    × (l.writer.failed ≡ l.fn.writer.failed)
    × (l.writer.stream.ghost_name ≡ l.fn.writer.stream.ghost_name)
