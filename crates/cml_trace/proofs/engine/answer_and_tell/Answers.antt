use Rattle.cml_stream.specs.Streams.{stream}
use Rattle.cml_trace.proofs.EngineLemmas.{on_err, begun_answered}
use Rattle.cml_trace.proofs.engine.answer_and_tell.Goals as goal

pub returns-in_err-tell-clause-err : goal.returns-in_err-tell-clause-err
returns-in_err-tell-clause-err g c = λ input came.
    let output = stream (g.W.Write.contents c.args.writer.now.stream.now) (g.W.Write.contents c.answer.new.writer.stream.now) in
    on_err c.from_residual-in_err-tell.result (begun_answered input output c.in_ok-end.end (c.in_ok-end.ensures.ok input came))
