use Rattle.std.proofs.Common.{rules, codes}
use Rattle.cml_arguments.specs.Words.{flag_rule}
use Rattle.cml_arguments.proofs.Added.{helped}
use Rattle.cml_arguments.proofs.table.stopping.Goals as goal

pub returns : goal.returns
returns c = λ shape made. c.with_arg.ensures (flag_rule (codes "stop")) shape (search (rules, helped)) made
