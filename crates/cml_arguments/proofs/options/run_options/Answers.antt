use Rattle.std.proofs.Common.{rules, refl, ◌∙◌, [], ◌∷◌, ◌++◌, codes, List}
use Rattle.clap.proofs.WalkLemmas.{first_value-rows}
use Rattle.clap.specs.Words.{Rule, found_of, rows_of}
use Rattle.cml_arguments.specs.Words.{any_rule, count_rule, end_rules, explain_rules, file_rule, option_rule, order_rules, property_rules, stop_rules, workers_rule}
use Rattle.cml_arguments.proofs.Served.{default_in_range, explain_served, flag_served, mid_served, number_in_range, number_served}
use Rattle.cml_arguments.proofs.options.run_options.Goals as goal

-- the rules of its own arguments
abbrev own : List Rule
own = file_rule (codes "FILE") ∷ workers_rule (codes "workers") ∷ count_rule (codes "steps") ∷ any_rule (codes "seed") ∷ count_rule (codes "watch")
    ∷ option_rule (codes "record") ∷ option_rule (codes "draw") ∷ order_rules

pub end_options-requires : goal.end_options-requires
end_options-requires c = mid_served (rows_of (found_of c.args.matches.now)) own end_rules (property_rules ++ (stop_rules ++ explain_rules)) c.requires

pub property_options-requires : goal.property_options-requires
property_options-requires c = mid_served (rows_of (found_of c.args.matches.now)) (own ++ end_rules) property_rules (stop_rules ++ explain_rules) c.requires

pub explain_option-requires : goal.explain_option-requires
explain_option-requires c = explain_served (rows_of (found_of c.args.matches.now)) (own ++ end_rules ++ property_rules ++ stop_rules) c.requires

pub number-requires-2 : goal.number-requires-2
number-requires-2 c = number_served _ _ (codes "steps") _ _ c.requires refl refl

pub number-requires-3 : goal.number-requires-3
number-requires-3 c = number_served _ _ (codes "seed") _ _ c.requires refl refl

pub number-requires-4 : goal.number-requires-4
number-requires-4 c = number_served _ _ (codes "priority") _ _ c.requires refl refl

pub number-requires-5 : goal.number-requires-5
number-requires-5 c = number_served _ _ (codes "watch") _ _ c.requires refl refl

pub flag-requires : goal.flag-requires
flag-requires c = flag_served _ _ (codes "turns") c.requires refl

pub flag-requires-2 : goal.flag-requires-2
flag-requires-2 c = flag_served _ _ (codes "stop") c.requires refl

pub returns : goal.returns
returns c = record {
  file = c.given.ensures;
  workers = cc;
  steps = cc;
  seed = c.number-3.ensures;
  turns = c.flag.ensures;
  priority = c.number-4.ensures;
  watch = c.number-5.ensures;
  record_file = c.get_str.ensures ∙ first_value-rows (found_of c.args.matches.now) (codes "record");
  draw_file = c.get_str-2.ensures ∙ first_value-rows (found_of c.args.matches.now) (codes "draw");
  end = c.in_ok-end_options.ensures;
  properties = c.in_ok-property_options.ensures;
  stop = c.flag-2.ensures;
  explain = c.explain_option.ensures;
  counts = search (rules, default_in_range, number_in_range);
}
