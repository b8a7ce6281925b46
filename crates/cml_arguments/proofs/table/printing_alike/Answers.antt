use Rattle.std.proofs.Common.{rules, codes}
use Rattle.cml_arguments.specs.Words.{flag_rule, with_rule}
use Rattle.cml_arguments.proofs.Added.{helped, shaped, two_added}
use Rattle.cml_arguments.proofs.table.printing_alike.Goals as goal

pub returns : goal.returns
returns c = λ shape made.
    let one = c.with_arg.ensures (flag_rule (codes "same-lines")) shape (search (rules, helped)) made in
    shaped _ _ _ _ (two_added (flag_rule (codes "same-lines")) (flag_rule (codes "same-order")) shape)
    (c.with_arg-2.ensures (flag_rule (codes "same-order")) (with_rule (flag_rule (codes "same-lines")) shape) (search (rules, helped)) one)
