use Rattle.std.proofs.Common.{codes, [], ◌∷◌}
use Rattle.cml_arguments.specs.Words.{command_of, file_rule, option_rule}
use Rattle.cml_arguments.proofs.table.step.Goals as goal

pub returns : goal.returns
returns c = c.with_arg.ensures (option_rule (codes "record")) (command_of (codes "step") (file_rule (codes "FILE") ∷ [])) c.record.ensures c.on_file.ensures
