use Rattle.std.proofs.Common.{codes, [], ◌∷◌}
use Rattle.clap.specs.Words.{Shape}
use Rattle.std.specs.Prelude.{IfOk}
use Rattle.cml_arguments.specs.Words.{command_of, count_rule, file_rule, with_end, with_properties, with_rule, with_stop, IsShapedAs}
use Rattle.cml_arguments.proofs.table.replay.Goals as goal

-- the command on a file, and with its arguments one after another
abbrev begun : Shape
begun = (command_of (codes "replay") (file_rule (codes "FILE") ∷ []))

abbrev first : Shape
first = with_rule (file_rule (codes "SCHEDULE")) begun

abbrev second : Shape
second = with_rule (count_rule (codes "watch")) first

pub returns : goal.returns
returns c =
    let one : IfOk c.with_arg-command.result (IsShapedAs first) = c.with_arg-command.ensures (file_rule (codes "SCHEDULE")) begun c.file.ensures c.on_file.ensures in
    let two : IfOk c.with_arg.result (IsShapedAs second) = c.with_arg.ensures (count_rule (codes "watch")) first c.watch.ensures one in
    let holds : IfOk c.holding.result (IsShapedAs (with_properties (with_end second))) = c.holding.ensures (with_end second) (c.ending-command.ensures second two) in
    c.explaining.ensures (with_stop (with_properties (with_end second))) (c.stopping.ensures (with_properties (with_end second)) holds)
