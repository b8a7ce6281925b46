-- What the structs of `src/` say.
use Rattle.std.specs.Prelude.{map}
use Rattle.cml_step.specs.Calls.{text_of}
use Rattle.cml_hub.specs.Deeds.{origins}
use Rattle.cml_facts.specs.declared.ending.left.Stage.{Stage}
use Rattle.cml_facts.specs.Takes.{taker_in}
use Rattle.cml_facts.specs.Lefts.{Scene}

abbrev pub plain_stage : Stage → Scene
plain_stage s = record {
  places = map (λ own. own.items) s.places.now;
  world = s.hub.now.course.world;
  began = origins (text_of s.hub.now.course.program) s.hub.now.course.items;
  taker = taker_in s.takers.now;
  spots = s.spots.now;
  turns = s.turns.now;
}
