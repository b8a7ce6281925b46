use Rattle.std.proofs.Common.{rules, codes, [], ◌∷◌}
use Rattle.cml_arguments.specs.Words.{command_of, count_rule, file_rule, with_rule}
use Rattle.cml_arguments.proofs.Added.{helped}
use Rattle.cml_arguments.proofs.table.part_of_run.Goals as goal

pub returns : goal.returns
returns c =
    let begun = (command_of c.args.name.now (file_rule (codes "FILE") ∷ [])) in
    let one = c.with_arg-command.ensures (file_rule (codes "SCHEDULE")) begun c.file.ensures c.on_file.ensures in
    let two = c.with_arg-command-2.ensures (count_rule (codes "from")) (with_rule (file_rule (codes "SCHEDULE")) begun) (search (rules, helped)) one in
    c.with_arg.ensures (count_rule (codes "to")) (with_rule (count_rule (codes "from")) (with_rule (file_rule (codes "SCHEDULE")) begun)) (search (rules, helped)) two
