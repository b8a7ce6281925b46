use Rattle.std.proofs.Common.{rules, ◌≡◌, codes, true, []}
use Rattle.clap.specs.Words.{App, app_of, new_app, with_subcommand}
use Rattle.cml_arguments.specs.Words.{file_command, part_command, replay_command, run_command, trace_command}
use Rattle.cml_arguments.proofs.table.command.Goals as goal

-- the program without its commands, and with the first of them
abbrev none : App
none = record { top = record (new_app (codes "cml")).top { subcommand_required = true; has_version = true }; subs = [] }

abbrev one : App
one = with_subcommand none trace_command

abbrev two : App
two = with_subcommand one (file_command (codes "check"))

abbrev three : App
three = with_subcommand two (file_command (codes "fmt"))

abbrev four : App
four = with_subcommand three run_command

abbrev five : App
five = with_subcommand four replay_command

abbrev six : App
six = with_subcommand five (part_command (codes "explain"))

pub returns : goal.returns
returns c =
    let is_none : app_of c.subcommand_required-program.result ≡ none = search rules in
    let is_one = c.with_command-program.ensures none trace_command is_none c.trace.ensures in
    let is_two = c.with_command-program-2.ensures one (file_command (codes "check")) is_one c.file_alone.ensures in
    let is_three = c.with_command-program-3.ensures two (file_command (codes "fmt")) is_two c.file_alone-2.ensures in
    let is_four = c.with_command-program-4.ensures three run_command is_three c.run.ensures in
    let is_five = c.with_command-program-5.ensures four replay_command is_four c.replay.ensures in
    let is_six = c.with_command-program-6.ensures five (part_command (codes "explain")) is_five c.explain_run.ensures in
    c.others.ensures six is_six
