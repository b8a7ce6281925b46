use Rattle.std.proofs.Common.{[], IfOk, OnErr}
use Rattle.cml_trace.specs.Runs.{AreAnswered, AreBegun}
use Rattle.cml_stream.specs.Streams.{stream}
use Rattle.cml_trace.proofs.EngineLemmas.{finish_ok, finish_err}
use Rattle.cml_trace.proofs.engine.write_answer.Goals as goal

pub returns-clause-ok : goal.returns-clause-ok
returns-clause-ok g c =
    let output = stream (g.W.Write.contents c.args.writer.now.stream.now) (g.W.Write.contents c.answer_lines-end.new.writer.stream.now) in
    let answered : IfOk c.answer_lines-end.result (AreAnswered c.args.lines.now c.args.book.now c.answer_lines-end.new.book [] c.answer_lines-end.new.page output) =
    rw c.new-page.ensures at c.answer_lines-end.ensures.ok in
    finish_ok c.args.lines.now c.args.book.now c.answer_lines-end.new.book c.answer_lines-end.new.page _ _ _ c.answer_lines-end.result c.finish.result answered c.finish.ensures.ok c.finish.ensures.end

pub returns-clause-err : goal.returns-clause-err
returns-clause-err g c =
    let output = stream (g.W.Write.contents c.args.writer.now.stream.now) (g.W.Write.contents c.answer_lines-end.new.writer.stream.now) in
    let answered : IfOk c.answer_lines-end.result (AreAnswered c.args.lines.now c.args.book.now c.answer_lines-end.new.book [] c.answer_lines-end.new.page output) =
    rw c.new-page.ensures at c.answer_lines-end.ensures.ok in
    let begun : OnErr c.answer_lines-end.result (AreBegun c.args.lines.now c.args.book.now [] c.answer_lines-end.new.page output) =
    rw c.new-page.ensures at c.answer_lines-end.ensures.err in
    finish_err c.args.lines.now c.args.book.now c.answer_lines-end.new.book c.answer_lines-end.new.page _ _ _ c.answer_lines-end.result c.finish.result answered begun c.finish.ensures.err
