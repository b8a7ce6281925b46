use Rattle.std.proofs.Common.{rules, codes}
use Rattle.cml_arguments.specs.Words.{list_rule, option_rule, with_rule}
use Rattle.cml_arguments.proofs.Added.{helped, shaped, three_added}
use Rattle.cml_arguments.proofs.table.finding.Goals as goal

pub returns : goal.returns
returns c = λ shape made.
    let one = c.with_arg.ensures (option_rule (codes "save")) shape (search (rules, helped)) made in
    let two = c.with_arg-2.ensures (list_rule (codes "servers")) (with_rule (option_rule (codes "save")) shape) c.servers.ensures one in
    shaped _ _ _ _ (three_added (option_rule (codes "save")) (list_rule (codes "servers")) (list_rule (codes "until")) shape) (c.with_arg-3.ensures (list_rule (codes "until")) (with_rule (list_rule
    (codes "servers")) (with_rule (option_rule (codes "save")) shape)) (search (rules, helped)) two)
