use Rattle.cml_trace.proofs.EngineLemmas.{written_to}
use Rattle.cml_trace.proofs.live.answer_now.Goals as goal

pub returns-in-Err-clause-err : goal.returns-in-Err-clause-err
returns-in-Err-clause-err g c =
    written_to c.args.lines.now c.args.book.now c.write_answer.new.book _ _ _ c.in_ok-end.end c.in_ok-end.ensures.ok c.flush.ensures.bytes
