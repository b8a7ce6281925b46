use Rattle.std.proofs.Common.{codes}
use Rattle.clap.specs.Words.{App, with_subcommand}
use Rattle.cml_arguments.specs.Words.{explore_command, part_command, shrink_command, step_command, verify_command}
use Rattle.cml_arguments.proofs.table.others.Goals as goal

abbrev one : App → App
one app = with_subcommand app explore_command

abbrev two : App → App
two app = with_subcommand (one app) verify_command

abbrev three : App → App
three app = with_subcommand (two app) shrink_command

abbrev four : App → App
four app = with_subcommand (three app) (part_command (codes "draw"))

pub returns : goal.returns
returns c = λ app is.
    let is_one = c.with_command-program.ensures app explore_command is c.explore.ensures in
    let is_two = c.with_command-program-2.ensures (one app) verify_command is_one c.verify.ensures in
    let is_three = c.with_command-program-3.ensures (two app) shrink_command is_two c.shrink.ensures in
    let is_four = c.with_command-program-4.ensures (three app) (part_command (codes "draw")) is_three c.draw.ensures in
    c.with_command.ensures (four app) step_command is_four c.step.ensures
