use Rattle.cml_explore.proofs.JudgeLemmas.{judged_alike}
use Rattle.cml_explore.proofs.law.runs_that_ended_alike_are_judged_alike.Goals as goal

pub returns : goal.returns
returns c = judged_alike
