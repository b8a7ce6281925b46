use Rattle.std.proofs.Common.{◌≤◌, ◌<◌, IfOk, OnErr, length, arith}
use Rattle.cml_book.specs.Step.{empty_world}
use Rattle.cml_trace.specs.Answers.{max_input}
use Rattle.cml_trace.specs.Lines.{lines_from}
use Rattle.cml_trace.specs.Runs.{AreWritten, AreWrittenTo}
use Rattle.cml_stream.specs.Streams.{stream}
use Rattle.cml_trace.proofs.EngineLemmas.{on_err, trace_answered, trace_begun, begun_long}
use Rattle.cml_trace.proofs.engine.answer.Goals as goal

pub returns-in_err-write_out-clause-err : goal.returns-in_err-write_out-clause-err
returns-in_err-write_out-clause-err g c = λ input came.
    let long : max_input < length c.args.trace.now = omega (arith, c.if-trace-gt-MAX_INPUT.true) in
    let output = stream (g.W.Write.contents c.args.writer.now.stream.now) (g.W.Write.contents c.write_out.new.out.stream.now) in
    on_err c.from_residual.result (begun_long input output c.args.trace.now c.in_err-write_out.ensures.err.0 came long c.in_err-write_out.ensures.err.1)

pub returns-clause-ok : goal.returns-clause-ok
returns-clause-ok g c = λ input came.
    let short : length c.args.trace.now ≤ max_input = omega (arith, c.if-trace-gt-MAX_INPUT.false) in
    let output = stream (g.W.Write.contents c.args.writer.now.stream.now) (g.W.Write.contents c.write_answer-result.new.writer.stream.now) in
    let written : IfOk c.write_answer-result.result (AreWritten (lines_from 1 c.args.trace.now) empty_world c.write_answer-result.new.book output) =
    rw (c.new-book.ensures, c.new.ensures) at c.write_answer-result.ensures.ok in
    trace_answered c.write_answer-result.result input output c.args.trace.now c.write_answer-result.new.book short written came

pub returns-clause-err : goal.returns-clause-err
returns-clause-err g c = λ input came.
    let short : length c.args.trace.now ≤ max_input = omega (arith, c.if-trace-gt-MAX_INPUT.false) in
    let output = stream (g.W.Write.contents c.args.writer.now.stream.now) (g.W.Write.contents c.write_answer-result.new.writer.stream.now) in
    let written : OnErr c.write_answer-result.result (AreWrittenTo (lines_from 1 c.args.trace.now) empty_world output) =
    rw (c.new-book.ensures, c.new.ensures) at c.write_answer-result.ensures.err in
    trace_begun c.write_answer-result.result input output c.args.trace.now short written came
