use Rattle.std.proofs.Common.{rules}
use Rattle.clap.specs.Words.{found_of, rows_of, subcommand_rows_of}
use Rattle.cml_arguments.proofs.Named.{named_complete, no_other}
use Rattle.cml_arguments.proofs.options.task_of.Goals as goal

pub unreachable-requires-in_default-name : goal.unreachable-requires-in_default-name
unreachable-requires-in_default-name c =
    let found = subcommand_rows_of c.args.matches.now in
    let below = found_of c.in-Some.below.now in
    let complete = named_complete found c.in-Some.name.now below (search rules) c.in-Some.ensures.rows c.requires in
    let other = c.in_default-name in
    no_other c.in-Some.name.now (rows_of below) complete other.not-trace other.not-check other.not-fmt other.not-run other.not-replay other.not-explain other.not-explore
    other.not-verify other.not-shrink other.not-draw other.not-step
