use Rattle.std.proofs.Common.{refl, codes, List, [], ◌∷◌, ◌++◌}
use Rattle.clap.specs.Words.{Rule, found_of, rows_of}
use Rattle.cml_arguments.specs.Words.{count_rule, end_rules, explain_rules, file_rule, property_rules, stop_rules}
use Rattle.cml_arguments.proofs.Served.{explain_served, flag_served, mid_served}
use Rattle.cml_arguments.proofs.options.replay_options.Goals as goal

-- the rules of its own arguments
abbrev own : List Rule
own = file_rule (codes "FILE") ∷ file_rule (codes "SCHEDULE") ∷ count_rule (codes "watch") ∷ []

pub end_options-requires : goal.end_options-requires
end_options-requires c = mid_served (rows_of (found_of c.args.matches.now)) own end_rules (property_rules ++ (stop_rules ++ explain_rules)) c.requires

pub property_options-requires : goal.property_options-requires
property_options-requires c = mid_served (rows_of (found_of c.args.matches.now)) (own ++ end_rules) property_rules (stop_rules ++ explain_rules) c.requires

pub flag-requires : goal.flag-requires
flag-requires c = flag_served _ _ (codes "stop") c.requires refl

pub explain_option-requires : goal.explain_option-requires
explain_option-requires c = explain_served (rows_of (found_of c.args.matches.now)) (own ++ end_rules ++ property_rules ++ stop_rules) c.requires
