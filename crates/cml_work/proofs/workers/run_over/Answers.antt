use Rattle.std.proofs.lemmas.Result.{IfOk-weaker, IfErr-weaker}
use Rattle.cml_work.proofs.Going.{worked_after, went_after}
use Rattle.cml_work.proofs.workers.run_over.Goals as goal

pub returns-clause-ok : goal.returns-clause-ok
returns-clause-ok g c =
    IfOk-weaker c.end_alone.result _ _ (λ new h. worked_after _ c.args.hub c.into_parts-hub.result.0 new c.requires.hub c.into_parts-hub.ensures.follows h.0) c.end_alone.ensures.ok

pub returns-clause-err : goal.returns-clause-err
returns-clause-err g c =
    IfErr-weaker c.end_alone.result _ _ (λ new h. went_after _ c.args.hub c.into_parts-hub.result.0 new c.requires.hub c.into_parts-hub.ensures.follows h.0) c.end_alone.ensures.err

pub returns-clause-chosen : goal.returns-clause-chosen
returns-clause-chosen g c = c.end_alone.ensures.chosen _ _ c.into_parts-hub.ensures.chooses
