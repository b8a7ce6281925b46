use Rattle.std.proofs.Common.{rules, codes}
use Rattle.clap.specs.Words.{Shape}
use Rattle.cml_arguments.specs.Words.{flag_rule, list_rule, option_rule, with_rule}
use Rattle.cml_arguments.proofs.Added.{helped, shaped, six_added}
use Rattle.cml_arguments.proofs.table.holding.Goals as goal

-- a command with its arguments one after another
abbrev first : Shape → Shape
first shape = with_rule (list_rule (codes "never")) shape

abbrev second : Shape → Shape
second shape = with_rule (list_rule (codes "always")) (first shape)

abbrev third : Shape → Shape
third shape = with_rule (list_rule (codes "once")) (second shape)

abbrev fourth : Shape → Shape
fourth shape = with_rule (list_rule (codes "before")) (third shape)

abbrev fifth : Shape → Shape
fifth shape = with_rule (flag_rule (codes "empty")) (fourth shape)

pub returns : goal.returns
returns c = λ shape made.
    let one = c.with_arg-command.ensures (list_rule (codes "never")) shape (search (rules, helped)) made in
    let two = c.with_arg-command-2.ensures (list_rule (codes "always")) (first shape) (search (rules, helped)) one in
    let three = c.with_arg-command-3.ensures (list_rule (codes "once")) (second shape) (search (rules, helped)) two in
    let four = c.with_arg-command-4.ensures (list_rule (codes "before")) (third shape) (search (rules, helped)) three in
    let five = c.with_arg-command-5.ensures (flag_rule (codes "empty")) (fourth shape) (search (rules, helped)) four in
    shaped _ _ _ _
    (six_added (list_rule (codes "never")) (list_rule (codes "always")) (list_rule (codes "once")) (list_rule (codes "before")) (flag_rule (codes "empty"))
    (option_rule (codes "properties")) shape)
    (c.with_arg.ensures (option_rule (codes "properties")) (fifth shape) (search (rules, helped)) five)
