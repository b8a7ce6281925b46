use Rattle.std.proofs.Common.{◌≡◌, take}
use Rattle.std.specs.List.{flat_map}
use Rattle.cml_schedule.specs.Reports.{report_text}
use Rattle.cml_stream.specs.Streams.{stream, Takes}
use Rattle.cml_work.proofs.reports.send_reports.Given as goal

-- the lines so far were written
abbrev pub invariant-loop-report : goal.invariant-loop-report
invariant-loop-report g l =
    Takes (stream (g.W.Write.contents l.fn.writer.stream.now) (g.W.Write.contents l.writer.stream.now)) (flat_map report_text (take l.report-index l.reports))
    × (l.writer.failed ≡ l.fn.writer.failed)
    × (l.writer.stream.ghost_name ≡ l.fn.writer.stream.ghost_name)
