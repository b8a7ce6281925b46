use Rattle.std.proofs.Common.{refl, rules}
use Rattle.cml_text.proofs.NestLemmas.{takes_opening}
use Rattle.cml_text.proofs.nest.open_list.Goals as goal

pub returns-clause-ok : goal.returns-clause-ok
returns-clause-ok c =
    takes_opening _ _ _ _ (record { start = c.args.at; before = c.replace-before.result }) c.args.at (search rules) c.in_ok-push.ensures.items refl (search rules) (search rules)
