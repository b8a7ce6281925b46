use Rattle.std.proofs.Common.{◌∙◌, codes}
use Rattle.clap.proofs.WalkLemmas.{first_value-rows}
use Rattle.clap.specs.Words.{found_of}
use Rattle.cml_arguments.proofs.options.step_options.Goals as goal

pub returns : goal.returns
returns c = record {
  script = c.given.ensures;
  record_file = c.get_str.ensures ∙ first_value-rows (found_of c.args.matches.now) (codes "record");
}
