use Rattle.cml_host.proofs.WorkLemmas.{stopped_live}
use Rattle.cml_host.proofs.workers.run_live.Goals as goal

pub returns-in-Err-clause-err : goal.returns-in-Err-clause-err
returns-in-Err-clause-err g c =
    let a = g.E.Write.contents c.args.err.now.stream.now in
    let b = g.E.Write.contents c.run_watched.new.writer.stream.now in
    stopped_live _ c.run_watched.result c.args.options.now c.args.hub c.in-Err.fault c.stopped_by.result a b c.args.err.now.failed c.run_watched.new.writer.calls
    c.run_watched.new.writer.failed (c.requires.count.1, c.requires.watch) c.requires.count.0 c.in-Err.ensures.fails c.in-Err.ensures.written_err
    c.requires.fresh c.in-Err.ensures.failed c.stopped_by.ensures.hub c.stopped_by.ensures.cause
