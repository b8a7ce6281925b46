use Rattle.std.proofs.Common.{codes, [], ◌∷◌}
use Rattle.cml_arguments.specs.Words.{command_of, file_rule}
use Rattle.cml_arguments.proofs.table.file_alone.Goals as goal

pub returns : goal.returns
returns c = c.explaining.ensures (command_of c.args.name.now (file_rule (codes "FILE") ∷ [])) c.on_file.ensures
