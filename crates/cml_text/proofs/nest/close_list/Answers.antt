use Rattle.std.proofs.Common.{◌+◌, refl, rules}
use Rattle.cml_text.proofs.NestLemmas.{takes_closing}
use Rattle.cml_text.proofs.nest.close_list.Goals as goal

pub returns-in_ok-push-in-Some-clause-ok : goal.returns-in_ok-push-in-Some-clause-ok
returns-in_ok-push-in-Some-clause-ok c =
    takes_closing _ _ _ _ c.in-Some.field-0 c.args.at (record { start = c.in-Some.start; end = c.args.at + 1 }) c.in-Some.ensures.items (search rules) refl (search rules)
