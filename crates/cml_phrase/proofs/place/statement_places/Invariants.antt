use Rattle.std.proofs.Common.{◌≡◌, map, take}
use Rattle.cml_phrase.specs.Spots.{place_at, item_places}
use Rattle.cml_phrase.proofs.place.statement_places.Given as goal

abbrev pub invariant-loop-item : goal.invariant-loop-item
invariant-loop-item l = record {
  walk : place_at l.text l.reached.at ≡ l.reached.place;
  found : map (λ places. places.items) l.all.items ≡ map (item_places l.text) (take l.item-index l.forms);
}
