use Rattle.std.proofs.Common.{◌≡◌, map, take}
use Rattle.cml_text.specs.Forms.{span_of}
use Rattle.cml_phrase.specs.Spots.{place_at}
use Rattle.cml_phrase.proofs.place.places_of.Given as goal

abbrev pub invariant-loop-form : goal.invariant-loop-form
invariant-loop-form l = record {
  walk : place_at l.text l.reached.at ≡ l.reached.place;
  found : l.places.items ≡ map (λ form. place_at l.text (span_of form).start) (map (λ s. s.now) (take l.form-index l.forms));
}
