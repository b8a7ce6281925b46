use Rattle.std.proofs.Common.{rules, codes}
use Rattle.cml_arguments.specs.Words.{flag_rule, list_rule, with_rule}
use Rattle.cml_arguments.proofs.Added.{helped, shaped, two_added}
use Rattle.cml_arguments.proofs.table.ending.Goals as goal

pub returns : goal.returns
returns c = λ shape made.
    let one = c.with_arg.ensures (flag_rule (codes "strict")) shape (search (rules, helped)) made in
    shaped _ _ _ _ (two_added (flag_rule (codes "strict")) (list_rule (codes "servers")) shape) (c.with_arg-2.ensures (list_rule (codes "servers")) (with_rule (flag_rule
    (codes "strict")) shape) c.servers.ensures one)
