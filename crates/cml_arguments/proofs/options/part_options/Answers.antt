use Rattle.std.proofs.Common.{rules, refl, codes}
use Rattle.cml_arguments.proofs.Served.{default_in_range, number_in_range, number_served}
use Rattle.cml_arguments.proofs.options.part_options.Goals as goal

pub number-requires-2 : goal.number-requires-2
number-requires-2 c = number_served _ _ (codes "to") _ _ c.requires refl refl

pub returns : goal.returns
returns c = record {
  script = c.given.ensures;
  schedule = c.given-schedule.ensures;
  first = cc;
  last = c.number-2.ensures;
  counts = search (rules, default_in_range, number_in_range);
}
