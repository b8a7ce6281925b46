use Rattle.std.proofs.Common.{◌≡◌, ◌∙◌, true, length, ap}
use Rattle.std.proofs.lemmas.Result.{IfOk-weaker, IfErr-weaker}
use Rattle.cml_work.proofs.Going.{worked_after}
use Rattle.cml_work.proofs.Leaving.{after_breaks}
use Rattle.cml_work.proofs.MarkSteps.{begins_trans}
use Rattle.cml_work.proofs.workers.watch_over.Goals as goal

pub finished-requires : goal.finished-requires
finished-requires g c = begins_trans _ _ _ c.into_parts_with-hub.ensures.shown c.watched-watched.ensures.shown

pub returns-clause-works : goal.returns-clause-works
returns-clause-works g c =
    IfOk-weaker c.finished.result _ _
    (λ r h. (worked_after _ c.args.hub c.into_parts_with-hub.result.0 r.0 c.requires.hub c.into_parts_with-hub.ensures.follows h.0, h.1)) c.finished.ensures.works

pub returns-clause-fails : goal.returns-clause-fails
returns-clause-fails g c =
    let still : c.is_still-is_still.result ≡ true → length c.into_parts_with-hub.result.0.course.items ≡ length c.args.hub.course.items =
    λ e. c.is_still-is_still.ensures e ∙ ap length c.schedule-before.ensures.items in
    IfErr-weaker c.finished.result _ _
    (λ fault h. after_breaks _ c.args.hub c.into_parts_with-hub.result.0 c.is_still-is_still.result fault c.requires.hub c.into_parts_with-hub.ensures.follows still h)
    c.finished.ensures.fails

pub returns-clause-written : goal.returns-clause-written
returns-clause-written g c = c.finished.ensures.written _ c.watched-watched.ensures.watched

pub returns-clause-written_err : goal.returns-clause-written_err
returns-clause-written_err g c = c.finished.ensures.written_err _ c.watched-watched.ensures.watched

pub returns-clause-failed : goal.returns-clause-failed
returns-clause-failed g c = c.finished.ensures.failed _ c.watched-watched.ensures.failed

pub returns-clause-chosen : goal.returns-clause-chosen
returns-clause-chosen g c = c.finished.ensures.chosen _ _ c.into_parts_with-hub.ensures.chooses
