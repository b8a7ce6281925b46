use Rattle.std.proofs.Common.{Bool, inl, inr, is_some, subst, ◌∙◌}
use Rattle.std.proofs.lemmas.Result.{IfOk-weaker}
use Rattle.cml_host.specs.Closed.{plain_asked}
use Rattle.cml_host.specs.Refused.{RefusesAs}
use Rattle.cml_host.specs.Replaying.{HasBadItem, IsNotFollowed}
use Rattle.cml_host.specs.Plans.{IsNoPlanFor}
use Rattle.cml_host.proofs.RefusedLemmas.{err_as, refuses_as}
use Rattle.cml_host.proofs.replay.replayed.Goals as goal

pub returns-in-Ok-clause-ok : goal.returns-in-Ok-clause-ok
returns-in-Ok-clause-ok g c = IfOk-weaker c.follow.result _ _ (λ h made. (c.in-Ok.plan, c.in-Ok.ensures.ok, made)) c.follow.ensures.ok

pub returns-in-Ok-clause-err : goal.returns-in-Ok-clause-err
returns-in-Ok-clause-err g c =
    let p = c.args.program in
    let content = g.S.Store.holds c.args.store.now c.args.options.now.schedule.now in
    let name = c.args.options.now.schedule.now in
    let explains = (plain_asked c.args.asked.now).explains in
    err_as (HasBadItem (is_some c.spoken_of-subject.result) p c.in-Ok.plan) (IsNotFollowed explains name content p)
    (λ told status bad. inr (
      c.in-Ok.plan,
      c.in-Ok.ensures.ok,
      subst (λ (e : Bool). HasBadItem e p c.in-Ok.plan told status) c.spoken_of-subject.ensures bad,
    )) c.follow.result c.follow.ensures.err

pub returns-in-Err-clause-err : goal.returns-in-Err-clause-err
returns-in-Err-clause-err g c =
    let p = c.args.program in
    let content = g.S.Store.holds c.args.store.now c.args.options.now.schedule.now in
    let name = c.args.options.now.schedule.now in
    let explains = (plain_asked c.args.asked.now).explains in
    refuses_as (IsNoPlanFor explains name content p) (IsNotFollowed explains name content p) (λ told status none. inl none) c.in-Err.why
    (subst (λ (e : Bool). RefusesAs (IsNoPlanFor e name content p) c.in-Err.why) (c.is_some.ensures ∙ c.spoken_of-subject.ensures) c.in-Err.ensures.err)
