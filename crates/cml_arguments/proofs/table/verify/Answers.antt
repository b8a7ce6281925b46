use Rattle.std.proofs.Common.{rules, codes, [], ◌∷◌}
use Rattle.clap.specs.Words.{Shape}
use Rattle.cml_arguments.specs.Words.{command_of, file_rule, flag_rule, list_rule, option_rule, states_rule, with_rule}
use Rattle.cml_arguments.proofs.Added.{helped}
use Rattle.cml_arguments.proofs.table.verify.Goals as goal

-- the command on a file, and with its arguments one after another
abbrev begun : Shape
begun = command_of (codes "verify") (file_rule (codes "FILE") ∷ [])

abbrev first : Shape
first = with_rule (states_rule (codes "states")) begun

abbrev second : Shape
second = with_rule (flag_rule (codes "outcomes")) first

abbrev third : Shape
third = with_rule (flag_rule (codes "endless")) second

abbrev fourth : Shape
fourth = with_rule (option_rule (codes "save")) third

abbrev fifth : Shape
fifth = with_rule (list_rule (codes "servers")) fourth

pub returns : goal.returns
returns c =
    let one = c.with_arg-command.ensures (states_rule (codes "states")) begun (search (rules, helped)) c.on_file.ensures in
    let two = c.with_arg-command-2.ensures (flag_rule (codes "outcomes")) first (search (rules, helped)) one in
    let three = c.with_arg-command-3.ensures (flag_rule (codes "endless")) second (search (rules, helped)) two in
    let four = c.with_arg.ensures (option_rule (codes "save")) third (search (rules, helped)) three in
    let five = c.with_arg-2.ensures (list_rule (codes "servers")) fourth c.servers.ensures four in
    c.with_arg-3.ensures (flag_rule (codes "json")) fifth c.json.ensures five
