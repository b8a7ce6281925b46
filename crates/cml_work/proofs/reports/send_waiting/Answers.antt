use Rattle.std.proofs.Common.{rules, ◌≡◌, ◌∙◌, Err}
use Rattle.cml_work.specs.Lines.{waits_line}
use Rattle.cml_work.proofs.Sending.{lines_behind, lines_ended}
use Rattle.cml_work.proofs.reports.send_waiting.Goals as goal

pub returns-in_err-send_line-clause-sent : goal.returns-in_err-send_line-clause-sent
returns-in_err-send_line-clause-sent g c =
    let a = g.W.Write.contents c.args.writer.now.stream.now in
    let b = g.W.Write.contents c.loop-thread.writer.stream.now in
    let d = g.W.Write.contents c.send_line.new.writer.stream.now in
    let is : c.from_residual.result ≡ Err c.in_err-send_line.field-0.0 = search rules in
    rw is (lines_ended waits_line a b d c.args.threads.now c.loop-thread.thread-index _ c.as_str.result.now
    c.loop-thread-test.true (c.as_str.ensures.value ∙ c.wait_line.ensures) c.loop-thread.invariant.0
    c.in_err-send_line.ensures.sent)

pub loop-thread-preserved : goal.loop-thread-preserved
loop-thread-preserved g c =
    let a = g.W.Write.contents c.args.writer.now.stream.now in
    let b = g.W.Write.contents c.loop-thread.writer.stream.now in
    let d = g.W.Write.contents c.send_line.new.writer.stream.now in (
      lines_behind waits_line a b d c.args.threads.now c.loop-thread.thread-index _ c.as_str.result.now c.loop-thread-test.true (c.as_str.ensures.value ∙ c.wait_line.ensures)
          c.loop-thread.invariant.0 c.in_ok-send_line.ensures.sent,
      c.in_ok-send_line.ensures.failed ∙ c.loop-thread.invariant.1,
      c.send_line.ensures.same_reference ∙ c.loop-thread.invariant.2,
    )
