use Rattle.std.proofs.Common.{◌∙◌}
use Rattle.std.proofs.lemmas.Result.{IfOk-weaker}
use Rattle.cml_host.proofs.OutcomeLemmas.{search_part, search_whole}
use Rattle.cml_host.proofs.outcomes.search_line.Goals as goal

pub returns-in-None : goal.returns-in-None
returns-in-None c = IfOk-weaker c.format.result _ _ (λ text is. is ∙ search_whole c.args.states c.args.reach c.in-None.is) c.format.ensures.ok

pub returns-in-Some : goal.returns-in-Some
returns-in-Some c = IfOk-weaker c.format-in-Some.result _ _ (λ text is. is ∙ search_part c.args.states c.in-Some.items c.args.reach c.in-Some.is) c.format-in-Some.ensures.ok
