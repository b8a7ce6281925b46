use Rattle.std.proofs.Common.{rules, codes, []}
use Rattle.cml_arguments.specs.Words.{command_of, flag_rule, with_rule}
use Rattle.cml_arguments.proofs.Added.{helped}
use Rattle.cml_arguments.proofs.table.trace.Goals as goal

pub returns : goal.returns
returns c =
    let live = c.with_arg.ensures (flag_rule (codes "live")) (command_of (codes "trace") []) (search (rules, helped)) (search rules) in
    c.explaining.ensures (with_rule (flag_rule (codes "live")) (command_of (codes "trace") [])) live
