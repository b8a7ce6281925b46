use Rattle.std.proofs.Common.{◌∙◌, ◌++◌, ap}
use Rattle.cml_judge.specs.Judgements.{break_details}
use Rattle.cml_judge.proofs.JudgementLemmas.{goal_so}
use Rattle.cml_judge.proofs.details.goal_details.Goals as goal

pub returns : goal.returns
returns c =
    goal_so c.args.stops c.args.properties.now c.args.hub.now c.in_ok-details.details.items _ c.in_ok-judged.judged.items c.in_ok-details.ensures c.in_ok-judged.ensures
    (c.in_ok-push_breaks.ensures ∙ ap (λ js. c.in_ok-details.details.items ++ break_details 0 js) c.as_slice.ensures.value)
