use Rattle.std.proofs.Common.{◌≡◌, take}
use Rattle.cml_hub.specs.Kept.{NoneOut}
use Rattle.cml_facts.specs.Narrators.{places_of, Knows}
use Rattle.cml_picture.specs.Draws.{Shows}
use Rattle.cml_picture.specs.Views.{plain_stack}
use Rattle.cml_picture.proofs.sheet.shown.show_all.Given as goal

-- what the items so far show
abbrev pub invariant-loop-item : goal.invariant-loop-item
invariant-loop-item l = record {
  shows : Shows (places_of l.fn.narrator) l.fn.hub.course (plain_stack l.fn.stack) (take l.item-index l.items) l.hub.course (plain_stack l.stack);
  knows : Knows l.hub.course l.narrator;
  places : places_of l.narrator ≡ places_of l.fn.narrator;
  none_out : NoneOut l.hub;
}
