use Rattle.std.proofs.Common.{◌∙◌}
use Rattle.cml_judge.proofs.JudgementLemmas.{judged_alone}
use Rattle.cml_judge.proofs.judged.judge_alone.Goals as goal

pub returns : goal.returns
returns c =
    judged_alone c.judge_hub.result (record { properties = c.args.properties; first = c.as_bytes.result }) c.args.hub.now
    (c.as_bytes.ensures.value ∙ c.out.ensures) c.judge_hub.ensures
