use Rattle.cml_trace.proofs.PageLemmas.{TellsStart-nothing}
use Rattle.cml_trace.proofs.EngineLemmas.{on_err}
use Rattle.cml_trace.specs.Answers.{bad_line}
use Rattle.cml_trace.proofs.reply.tell_bad.Goals as goal

pub returns-in_err-line-clause-err : goal.returns-in_err-line-clause-err
returns-in_err-line-clause-err g c =
    on_err c.from_residual.result (TellsStart-nothing c.args.page.now (bad_line c.args.number) (g.W.Write.contents c.args.writer.now.stream.now))
