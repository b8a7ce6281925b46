use Rattle.std.proofs.Common.{rules, ◌≡◌, ◌∙◌, Err, ap}
use Rattle.cml_schedule.specs.Reports.{report_text}
use Rattle.cml_work.proofs.Sending.{lines_behind, lines_ended}
use Rattle.cml_work.proofs.reports.send_reports.Goals as goal

pub returns-in_err-send_report-clause-sent : goal.returns-in_err-send_report-clause-sent
returns-in_err-send_report-clause-sent g c =
    let a = g.W.Write.contents c.args.writer.now.stream.now in
    let b = g.W.Write.contents c.loop-report.writer.stream.now in
    let d = g.W.Write.contents c.send_report.new.writer.stream.now in
    let is : c.from_residual.result ≡ Err c.in_err-send_report.field-0.0 = search rules in
    rw is (lines_ended report_text a b d c.args.reports.now c.loop-report.report-index c.report-item.result (report_text c.report-item.result) c.loop-report-test.true
    (ap report_text c.report-item.is) c.loop-report.invariant.0 c.in_err-send_report.ensures.sent)

pub loop-report-preserved : goal.loop-report-preserved
loop-report-preserved g c =
    let a = g.W.Write.contents c.args.writer.now.stream.now in
    let b = g.W.Write.contents c.loop-report.writer.stream.now in
    let d = g.W.Write.contents c.send_report.new.writer.stream.now in (
      lines_behind report_text a b d c.args.reports.now c.loop-report.report-index c.report-item.result (report_text c.report-item.result) c.loop-report-test.true (ap report_text c.report-item.is)
          c.loop-report.invariant.0 c.in_ok-send_report.ensures.sent,
      c.in_ok-send_report.ensures.failed ∙ c.loop-report.invariant.1,
      c.send_report.ensures.same_reference ∙ c.loop-report.invariant.2,
    )
