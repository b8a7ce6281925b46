use Rattle.std.proofs.Common.{◌≡◌, take}
use Rattle.cml_hub.specs.Kept.{NoneOut}
use Rattle.cml_facts.specs.Narrators.{places_of, Knows}
use Rattle.cml_picture.specs.Draws.{ItemsLead}
use Rattle.cml_picture.proofs.sheet.shown.follow_all.Given as goal

-- the hub has gone so far
abbrev pub invariant-loop-item : goal.invariant-loop-item
invariant-loop-item l = record {
  leads : ItemsLead l.fn.hub.course (take l.item-index l.items) l.hub.course;
  knows : Knows l.hub.course l.narrator;
  places : places_of l.narrator ≡ places_of l.fn.narrator;
  none_out : NoneOut l.hub;
}
