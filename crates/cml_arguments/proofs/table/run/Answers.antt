use Rattle.std.proofs.Common.{rules, codes, [], ◌∷◌}
use Rattle.clap.specs.Words.{Shape}
use Rattle.std.specs.Prelude.{IfOk}
use Rattle.cml_arguments.specs.Words.{any_rule, command_of, count_rule, file_rule, option_rule, with_end, with_order, with_properties, with_rule, with_stop, workers_rule, IsShapedAs}
use Rattle.cml_arguments.proofs.Added.{helped}
use Rattle.cml_arguments.proofs.table.run.Goals as goal

-- the command on a file, and with its arguments one after another
abbrev begun : Shape
begun = (command_of (codes "run") (file_rule (codes "FILE") ∷ []))

abbrev first : Shape
first = with_rule (workers_rule (codes "workers")) begun

abbrev second : Shape
second = with_rule (count_rule (codes "steps")) first

abbrev third : Shape
third = with_rule (any_rule (codes "seed")) second

abbrev fourth : Shape
fourth = with_rule (count_rule (codes "watch")) third

abbrev fifth : Shape
fifth = with_rule (option_rule (codes "record")) fourth

abbrev sixth : Shape
sixth = with_rule (option_rule (codes "draw")) fifth

pub returns : goal.returns
returns c =
    let one : IfOk c.with_arg-command.result (IsShapedAs first) = c.with_arg-command.ensures (workers_rule (codes "workers")) begun (search (rules, helped)) c.on_file-command.ensures in
    let two : IfOk c.with_arg-command-2.result (IsShapedAs second) = c.with_arg-command-2.ensures (count_rule (codes "steps")) first (search (rules, helped)) one in
    let three : IfOk c.with_arg-command-3.result (IsShapedAs third) = c.with_arg-command-3.ensures (any_rule (codes "seed")) second (search (rules, helped)) two in
    let four : IfOk c.with_arg-command-4.result (IsShapedAs fourth) = c.with_arg-command-4.ensures (count_rule (codes "watch")) third c.watch.ensures three in
    let five : IfOk c.with_arg-command-5.result (IsShapedAs fifth) = c.with_arg-command-5.ensures (option_rule (codes "record")) fourth c.record.ensures four in
    let six : IfOk c.with_arg-command-6.result (IsShapedAs sixth) = c.with_arg-command-6.ensures (option_rule (codes "draw")) fifth (search (rules, helped)) five in
    let ends : IfOk c.ending-command.result (IsShapedAs (with_end (with_order sixth))) = c.ending-command.ensures (with_order sixth) (c.ordering.ensures sixth six) in
    let holds : IfOk c.holding.result (IsShapedAs (with_properties (with_end (with_order sixth)))) = c.holding.ensures (with_end (with_order sixth)) ends in
    c.explaining.ensures (with_stop (with_properties (with_end (with_order sixth)))) (c.stopping.ensures (with_properties (with_end (with_order sixth))) holds)
