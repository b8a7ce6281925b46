-- What the structs of `src/` say.
use Rattle.std.specs.Prelude.{map}
use Rattle.cml_step.specs.Calls.{text_of}
use Rattle.cml_hub.specs.Deeds.{origins}
use Rattle.cml_facts.specs.Takes.{taker_in}
use Rattle.cml_explore.specs.declared.sight.Sighted.{Sighted}
use Rattle.cml_facts.specs.FallViews.{fall_in}
use Rattle.cml_explore.specs.Sights.{Sight}

abbrev pub plain_sight : Sighted → Sight
plain_sight s = record {
  places = map (λ own. own.items) s.places.now;
  program = s.hub.now.course.program;
  world = s.hub.now.course.world;
  began = origins (text_of s.hub.now.course.program) s.hub.now.course.items;
  taker = taker_in s.takers.now;
  falls = fall_in s.falls.now;
  spots = s.spots.now;
  below = s.below.now;
}
