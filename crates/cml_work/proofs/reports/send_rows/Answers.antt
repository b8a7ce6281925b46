use Rattle.std.proofs.Common.{rules, ◌≡◌, ◌∙◌, Err}
use Rattle.cml_schedule.specs.Reports.{report_row_line}
use Rattle.cml_work.proofs.Sending.{lines_behind, lines_ended}
use Rattle.cml_work.proofs.reports.send_rows.Goals as goal

pub returns-in_err-send_line-clause-sent : goal.returns-in_err-send_line-clause-sent
returns-in_err-send_line-clause-sent g c =
    let a = g.W.Write.contents c.args.writer.now.stream.now in
    let b = g.W.Write.contents c.loop-row.writer.stream.now in
    let d = g.W.Write.contents c.send_line.new.writer.stream.now in
    let is : c.from_residual.result ≡ Err c.in_err-send_line.field-0.0 = search rules in
    rw is (lines_ended report_row_line a b d c.args.rows.now c.loop-row.row-index _ c.as_str.result.now c.loop-row-test.true (c.as_str.ensures.value ∙ c.row_line.ensures) c.loop-row.invariant.0
    c.in_err-send_line.ensures.sent)

pub loop-row-preserved : goal.loop-row-preserved
loop-row-preserved g c =
    let a = g.W.Write.contents c.args.writer.now.stream.now in
    let b = g.W.Write.contents c.loop-row.writer.stream.now in
    let d = g.W.Write.contents c.send_line.new.writer.stream.now in (
      lines_behind report_row_line a b d c.args.rows.now c.loop-row.row-index _ c.as_str.result.now c.loop-row-test.true (c.as_str.ensures.value ∙ c.row_line.ensures)
          c.loop-row.invariant.0 c.in_ok-send_line.ensures.sent,
      c.in_ok-send_line.ensures.failed ∙ c.loop-row.invariant.1,
      c.send_line.ensures.same_reference ∙ c.loop-row.invariant.2,
    )
