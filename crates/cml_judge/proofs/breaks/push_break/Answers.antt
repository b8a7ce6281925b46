use Rattle.cml_judge.proofs.SpotLemmas.{told_none, told_one}
use Rattle.cml_judge.proofs.breaks.push_break.Goals as goal

pub returns-in_ok-push-in-Some : goal.returns-in_ok-push-in-Some
returns-in_ok-push-in-Some c =
    told_one c.args.hub.now c.args.property c.args.line _ _ _ _ c.in-Some.is c.in_ok-one-in-Some.ensures c.in_ok-push-in-Some.ensures.items

pub returns-in-None : goal.returns-in-None
returns-in-None c = told_none c.args.hub.now c.args.property c.args.line _ c.in-None.is
