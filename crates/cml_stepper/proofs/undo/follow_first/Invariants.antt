use Rattle.std.proofs.Common.{◌≡◌, ◌≤◌, take}
use Rattle.cml_hub.specs.Kept.{NoneOut}
use Rattle.cml_facts.specs.Narrators.{places_of, Knows}
use Rattle.cml_stepper.proofs.undo.follow_first.Given as goal

-- the second hub has gone so far, and the narrator with it
abbrev pub invariant-loop-i : goal.invariant-loop-i
invariant-loop-i l = record {
  upto : l.i ≤ l.count;
  program : l.second.course.program ≡ l.hub.course.program;
  budget : l.second.budget ≡ l.fn.second.budget;
  items : l.second.course.items ≡ take l.i l.items;
  none_out : NoneOut l.second;
  knows : Knows l.second.course l.narrator;
  places : places_of l.narrator ≡ places_of l.fn.narrator;
}
