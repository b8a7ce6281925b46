use Rattle.std.proofs.Common.{rules, refl, ◌∙◌, codes}
use Rattle.clap.proofs.WalkLemmas.{first_value-rows}
use Rattle.clap.specs.Words.{found_of}
use Rattle.cml_arguments.proofs.Served.{default_in_range, flag_served, number_served}
use Rattle.cml_arguments.proofs.options.verify_options.Goals as goal

pub number-requires : goal.number-requires
number-requires c = number_served _ _ (codes "states") _ _ c.requires refl refl

pub flag-requires : goal.flag-requires
flag-requires c = flag_served _ _ (codes "outcomes") c.requires refl

pub flag-requires-2 : goal.flag-requires-2
flag-requires-2 c = flag_served _ _ (codes "endless") c.requires refl

pub flag-requires-3 : goal.flag-requires-3
flag-requires-3 c = flag_served _ _ (codes "json") c.requires refl

pub returns : goal.returns
returns c = record {
  script = c.given.ensures;
  states = cc;
  outcomes = c.flag.ensures;
  endless = c.flag-2.ensures;
  save = c.get_str.ensures ∙ first_value-rows (found_of c.args.matches.now) (codes "save");
  servers = c.in_ok-servers.ensures;
  json = c.flag-3.ensures;
  counts = search (rules, default_in_range);
}
