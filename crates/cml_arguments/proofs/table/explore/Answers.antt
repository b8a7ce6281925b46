use Rattle.std.proofs.Common.{rules, codes, [], ◌∷◌}
use Rattle.clap.specs.Words.{Shape}
use Rattle.std.specs.Prelude.{IfOk}
use Rattle.cml_arguments.specs.Words.{any_rule, command_of, count_rule, file_rule, flag_rule, runs_rule, with_finding, with_order, with_properties, with_rule, workers_rule, IsShapedAs}
use Rattle.cml_arguments.proofs.Added.{helped}
use Rattle.cml_arguments.proofs.table.explore.Goals as goal

-- the command on a file, and with its arguments one after another
abbrev begun : Shape
begun = (command_of (codes "explore") (file_rule (codes "FILE") ∷ []))

abbrev first : Shape
first = with_rule (runs_rule (codes "runs")) begun

abbrev second : Shape
second = with_rule (any_rule (codes "seed")) first

abbrev third : Shape
third = with_rule (count_rule (codes "steps")) second

abbrev fourth : Shape
fourth = with_rule (workers_rule (codes "workers")) third

abbrev fifth : Shape
fifth = with_rule (flag_rule (codes "picks")) fourth

abbrev sixth : Shape
sixth = with_rule (flag_rule (codes "json")) fifth

pub returns : goal.returns
returns c =
    let one : IfOk c.with_arg-command.result (IsShapedAs first) = c.with_arg-command.ensures (runs_rule (codes "runs")) begun (search (rules, helped)) c.on_file.ensures in
    let two : IfOk c.with_arg-command-2.result (IsShapedAs second) = c.with_arg-command-2.ensures (any_rule (codes "seed")) first (search (rules, helped)) one in
    let three : IfOk c.with_arg-command-3.result (IsShapedAs third) = c.with_arg-command-3.ensures (count_rule (codes "steps")) second (search (rules, helped)) two in
    let four : IfOk c.with_arg-command-4.result (IsShapedAs fourth) = c.with_arg-command-4.ensures (workers_rule (codes "workers")) third (search (rules, helped)) three in
    let five : IfOk c.with_arg-command-5.result (IsShapedAs fifth) = c.with_arg-command-5.ensures (flag_rule (codes "picks")) fourth (search (rules, helped)) four in
    let six : IfOk c.with_arg-command-6.result (IsShapedAs sixth) = c.with_arg-command-6.ensures (flag_rule (codes "json")) fifth c.json.ensures five in
    let finds : IfOk c.finding-command.result (IsShapedAs (with_finding (with_order sixth))) = c.finding-command.ensures (with_order sixth) (c.ordering.ensures sixth six) in
    c.printing_alike.ensures (with_properties (with_finding (with_order sixth))) (c.holding.ensures (with_finding (with_order sixth)) finds)
