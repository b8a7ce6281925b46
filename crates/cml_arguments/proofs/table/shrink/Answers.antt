use Rattle.std.proofs.Common.{rules, codes, [], ◌∷◌}
use Rattle.std.specs.Prelude.{IfOk}
use Rattle.cml_arguments.specs.Words.{command_of, count_rule, file_rule, with_properties, with_rule, IsShapedAs}
use Rattle.cml_arguments.proofs.Added.{helped}
use Rattle.cml_arguments.proofs.table.shrink.Goals as goal

pub returns : goal.returns
returns c =
    let begun = (command_of (codes "shrink") (file_rule (codes "FILE") ∷ [])) in
    let one = c.with_arg-command.ensures (file_rule (codes "SCHEDULE")) begun c.file.ensures c.on_file.ensures in
    let own = with_rule (count_rule (codes "tries")) (with_rule (file_rule (codes "SCHEDULE")) begun) in
    let two : IfOk c.with_arg.result (IsShapedAs own) = c.with_arg.ensures (count_rule (codes "tries")) (with_rule (file_rule (codes "SCHEDULE")) begun) (search (rules, helped)) one in
    c.stopping.ensures (with_properties own) (c.holding.ensures own two)
