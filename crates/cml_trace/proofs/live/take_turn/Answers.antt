use Rattle.cml_trace.proofs.LiveLemmas.{broken_cut, on_nothing}
use Rattle.cml_trace.proofs.live.take_turn.Goals as goal

pub returns-in-Ok-clause-err : goal.returns-in-Ok-clause-err
returns-in-Ok-clause-err g c =
    broken_cut c.hear.result c.args.begun.now c.args.book.now _ _ c.hear.new.writer.failed c.hear.ensures.failed (c.hear.ensures.err _ c.in-Ok.ensures.bytes.0)

pub returns-then-eq-clause-ok : goal.returns-then-eq-clause-ok
returns-then-eq-clause-ok g c = on_nothing c.args.begun.now c.args.book.now _ _ _ c.is_not_ended.ensures c.in-Err.ensures.bytes
