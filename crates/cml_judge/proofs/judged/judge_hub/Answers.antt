use Rattle.std.proofs.Common.{◌∙◌}
use Rattle.cml_judge.proofs.JudgementLemmas.{judged_at}
use Rattle.cml_judge.proofs.judged.judge_hub.Goals as goal

pub returns : goal.returns
returns c =
    judged_at c.judge.result c.args.wanted.now c.args.hub.now (record { output = c.as_bytes.result; finish = c.finish_of.result })
    (c.as_bytes.ensures.value ∙ c.out.ensures) c.finish_of.ensures c.judge.ensures
