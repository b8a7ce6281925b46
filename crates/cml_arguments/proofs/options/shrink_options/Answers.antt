use Rattle.std.proofs.Common.{rules, refl, codes, List, [], ◌∷◌}
use Rattle.clap.specs.Words.{Rule, found_of, rows_of}
use Rattle.cml_arguments.specs.Words.{count_rule, file_rule, property_rules, stop_rules}
use Rattle.cml_arguments.proofs.Served.{default_in_range, flag_served, mid_served}
use Rattle.cml_arguments.proofs.options.shrink_options.Goals as goal

-- the rules of its own arguments
abbrev own : List Rule
own = file_rule (codes "FILE") ∷ file_rule (codes "SCHEDULE") ∷ count_rule (codes "tries") ∷ []

pub property_options-requires : goal.property_options-requires
property_options-requires c = mid_served (rows_of (found_of c.args.matches.now)) own property_rules stop_rules c.requires

pub flag-requires : goal.flag-requires
flag-requires c = flag_served _ _ (codes "stop") c.requires refl

pub returns : goal.returns
returns c = record {
  script = c.given.ensures;
  schedule = c.given-schedule.ensures;
  tries = cc;
  properties = c.in_ok-properties.ensures;
  stop = c.flag.ensures;
  counts = search (rules, default_in_range);
}
