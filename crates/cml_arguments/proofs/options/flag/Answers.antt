use Rattle.std.proofs.Common.{◌∙◌}
use Rattle.clap.specs.Words.{found_of, rows_of}
use Rattle.clap.proofs.WalkLemmas.{one_text-rows}
use Rattle.cml_arguments.proofs.Served.{reads_flag}
use Rattle.cml_arguments.proofs.options.flag.Goals as goal

pub returns : goal.returns
returns c =
    let found = found_of c.args.matches.now in
    let same = one_text-rows found c.args.id.now in
    reads_flag (rows_of found) c.args.id.now c.get_flag.result c.requires
    (λ none. c.get_flag.ensures.none (same ∙ none)) (λ on. c.get_flag.ensures.value (same ∙ on)) (λ off. c.get_flag.ensures.other (same ∙ off))
