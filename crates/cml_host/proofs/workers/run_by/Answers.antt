use Rattle.std.proofs.lemmas.Result.{IfOk-weaker, IfErr-weaker}
use Rattle.cml_host.proofs.WorkLemmas.{run_silent, stopped_silent}
use Rattle.cml_host.proofs.workers.run_by.Goals as goal

pub returns-else-is_some-clause-ok : goal.returns-else-is_some-clause-ok
returns-else-is_some-clause-ok g c =
    let a = g.E.Write.contents c.args.err.now.stream.now in
    IfOk-weaker c.run_silent.result _ _
    (λ new ran. run_silent c.args.hub new a c.args.err.now.calls c.args.err.now.failed ran.0 ran.1 c.requires.fresh) c.run_silent.ensures.ok

pub returns-else-is_some-clause-err : goal.returns-else-is_some-clause-err
returns-else-is_some-clause-err g c =
    let a = g.E.Write.contents c.args.err.now.stream.now in
    IfErr-weaker c.run_silent.result _ _
    (λ stopped out. stopped_silent c.args.options.now c.args.hub stopped a c.args.err.now.calls c.args.err.now.failed out.0 out.1 out.2 c.requires.fresh)
    c.run_silent.ensures.err
