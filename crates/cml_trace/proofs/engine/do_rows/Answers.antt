use Rattle.cml_scan.specs.Scan.{scan}
use Rattle.cml_trace.specs.Replies.{rows_text}
use Rattle.cml_trace.proofs.EngineLemmas.{on_err}
use Rattle.cml_trace.proofs.PageLemmas.{TellsStart-nothing}
use Rattle.cml_trace.proofs.engine.do_rows.Goals as goal

pub returns-in_err-rows-clause-err : goal.returns-in_err-rows-clause-err
returns-in_err-rows-clause-err g c =
    on_err c.from_residual.result (TellsStart-nothing c.args.page.now (rows_text (scan c.args.book.now)) (g.W.Write.contents c.args.writer.now.stream.now))
