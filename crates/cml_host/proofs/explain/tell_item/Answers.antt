use Rattle.std.proofs.Common.{Bool, IsTrue, subst, sym}
use Rattle.std.proofs.lemmas.Result.{IfOk-weaker}
use Rattle.cml_hub.specs.Kept.{IsFollowed}
use Rattle.cml_host.proofs.explain.tell_item.Goals as goal

pub returns-then-not-is_asked_for-clause-knows : goal.returns-then-not-is_asked_for-clause-knows
returns-then-not-is_asked_for-clause-knows c = IfOk-weaker c.follow.result _ _ (λ came knows is_so. knows is_so c.requires.knows) c.follow.ensures.knows

pub returns-clause-follows : goal.returns-clause-follows
returns-clause-follows c =
    IfOk-weaker c.push_told-came.result _ _
    (λ came is. subst (λ (b : Bool). IsFollowed c.args.hub.now c.args.item b c.tell.new.hub) (sym is) c.in_ok-told.ensures.follows) c.push_told-came.ensures

pub returns-clause-knows : goal.returns-clause-knows
returns-clause-knows c =
    IfOk-weaker c.push_told-came.result _ _ (λ came is is_so. c.in_ok-told.ensures.knows (subst IsTrue is is_so) c.requires.knows) c.push_told-came.ensures
