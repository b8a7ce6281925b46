use Rattle.cml_explore.specs.ClassViews.{plain_class}
use Rattle.cml_explore.proofs.tell.Script.class_told.Goals as goal

pub returns-clause-told : goal.returns-clause-told
returns-clause-told c = record {
  class = plain_class c.class.result;
  there = c.class.ensures;
  runs_are = c.runs.ensures;
  outputs_are = c.outputs.ensures;
  first_is = c.first-first.ensures;
  items_are = c.items.ensures;
  order_is = c.of.ensures;
  run_is = c.in_ok-well.ensures;
}
