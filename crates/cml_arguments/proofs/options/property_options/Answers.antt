use Rattle.std.proofs.Common.{refl, ◌∙◌, codes}
use Rattle.clap.proofs.WalkLemmas.{first_value-rows}
use Rattle.clap.specs.Words.{found_of}
use Rattle.cml_arguments.proofs.Served.{flag_served}
use Rattle.cml_arguments.proofs.options.property_options.Goals as goal

pub flag-requires : goal.flag-requires
flag-requires c = flag_served _ _ (codes "empty") c.requires refl

pub returns : goal.returns
returns c = record {
  never = c.in_ok-never.ensures;
  always = c.in_ok-always.ensures;
  once = c.in_ok-once.ensures;
  before = c.in_ok-before.ensures;
  empty = c.flag.ensures;
  file = c.get_str.ensures ∙ first_value-rows (found_of c.args.matches.now) (codes "properties");
}
