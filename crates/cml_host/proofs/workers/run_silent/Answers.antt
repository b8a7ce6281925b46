use Rattle.std.proofs.Common.{◌∙◌, subst, sym}
use Rattle.cml_hub.specs.Kept.{Kept}
use Rattle.cml_work.specs.Works.{GoesOnFrom}
use Rattle.cml_host.proofs.WorkLemmas.{ran_out, unwatched}
use Rattle.cml_host.proofs.workers.run_silent.Goals as goal

pub returns-in-Err-clause-err : goal.returns-in-Err-clause-err
returns-in-Err-clause-err g c =
    let out = ran_out c.args.hub c.args.workers c.in-Err.fault c.requires.count c.in-Err.ensures.works in
    let more = subst (λ (h : Kept). GoesOnFrom c.args.hub h) (sym c.stopped_by-stopped.ensures.hub) out.0 in
    (more, unwatched _ _ _ _ _ (more.watch ∙ c.requires.watch) c.hub_is_a_run-in-Err.ensures, c.stopped_by-stopped.ensures.cause ∙ out.1)
