use Rattle.std.proofs.Common.{rules, refl, ◌∙◌, [], ◌∷◌, ◌++◌, codes, List}
use Rattle.clap.proofs.WalkLemmas.{first_value-rows}
use Rattle.clap.specs.Words.{Rule, found_of, rows_of}
use Rattle.cml_arguments.specs.Words.{alike_rules, any_rule, count_rule, file_rule, finding_rules, flag_rule, order_rules, property_rules, runs_rule, workers_rule}
use Rattle.cml_arguments.proofs.Served.{default_in_range, flag_served, mid_served, number_in_range, number_served}
use Rattle.cml_arguments.proofs.options.explore_options.Goals as goal

-- the rules in front of what must hold
abbrev own : List Rule
own = file_rule (codes "FILE") ∷ runs_rule (codes "runs") ∷ any_rule (codes "seed") ∷ count_rule (codes "steps") ∷ workers_rule (codes "workers")
    ∷ flag_rule (codes "picks") ∷ flag_rule (codes "json") ∷ order_rules ++ finding_rules

pub property_options-requires : goal.property_options-requires
property_options-requires c = mid_served (rows_of (found_of c.args.matches.now)) own property_rules alike_rules c.requires

pub number-requires-2 : goal.number-requires-2
number-requires-2 c = number_served _ _ (codes "seed") _ _ c.requires refl refl

pub number-requires-3 : goal.number-requires-3
number-requires-3 c = number_served _ _ (codes "steps") _ _ c.requires refl refl

pub number-requires-4 : goal.number-requires-4
number-requires-4 c = number_served _ _ (codes "workers") _ _ c.requires refl refl

pub number-requires-5 : goal.number-requires-5
number-requires-5 c = number_served _ _ (codes "priority") _ _ c.requires refl refl

pub flag-requires : goal.flag-requires
flag-requires c = flag_served _ _ (codes "picks") c.requires refl

pub flag-requires-2 : goal.flag-requires-2
flag-requires-2 c = flag_served _ _ (codes "turns") c.requires refl

pub flag-requires-3 : goal.flag-requires-3
flag-requires-3 c = flag_served _ _ (codes "same-lines") c.requires refl

pub flag-requires-4 : goal.flag-requires-4
flag-requires-4 c = flag_served _ _ (codes "same-order") c.requires refl

pub flag-requires-5 : goal.flag-requires-5
flag-requires-5 c = flag_served _ _ (codes "json") c.requires refl

pub returns : goal.returns
returns c = record {
  script = c.given.ensures;
  runs = cc;
  seed = cc;
  steps = cc;
  workers = c.number-4.ensures;
  picks = c.flag.ensures;
  turns = c.flag-2.ensures;
  priority = c.number-5.ensures;
  save = c.get_str.ensures ∙ first_value-rows (found_of c.args.matches.now) (codes "save");
  servers = c.in_ok-servers.ensures;
  until = c.in_ok-until.ensures;
  properties = c.in_ok-properties.ensures;
  same_lines = c.flag-3.ensures;
  same_order = c.flag-4.ensures;
  json = c.flag-5.ensures;
  counts = search (rules, default_in_range, number_in_range);
}
