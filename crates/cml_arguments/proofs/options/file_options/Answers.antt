use Rattle.std.proofs.Common.{codes, [], ◌∷◌}
use Rattle.clap.specs.Words.{found_of, rows_of}
use Rattle.cml_arguments.specs.Words.{file_rule}
use Rattle.cml_arguments.proofs.Served.{explain_served}
use Rattle.cml_arguments.proofs.options.file_options.Goals as goal

pub explain_option-requires : goal.explain_option-requires
explain_option-requires c = explain_served (rows_of (found_of c.args.matches.now)) (file_rule (codes "FILE") ∷ []) c.requires
