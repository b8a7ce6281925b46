use Rattle.std.proofs.Common.{◌≡◌, ◌∙◌, ℕ, List, Option, ap, sym, subst, length, map, arith}
use Rattle.cml_phrase.specs.declared.place.Place.{Place}
use Rattle.cml_step.specs.Calls.{text_of}
use Rattle.cml_hub.specs.Courses.{PlainCourse}
use Rattle.cml_hub.specs.Deeds.{origins}
use Rattle.cml_facts.specs.declared.ending.standing.Spot.{Spot}
use Rattle.cml_facts.specs.Lefts.{Scene, turn_counts, all_left}
use Rattle.cml_facts.specs.Takes.{taker_in}
use Rattle.cml_facts.specs.Standings.{AreSpots}
use Rattle.cml_facts.proofs.TurnLemmas.{as_many_counts}
use Rattle.cml_facts.proofs.ending.ending.left_threads.Goals as goal

pub all_left-requires : goal.all_left-requires
all_left-requires c =
    let many : c.len.result ≡ length c.in_ok-spots.spots.items = omega (arith, c.in_ok-spots.spots.ok.0) in
    let turns : length c.as_slice-2.result.now ≡ c.len.result = ap length c.as_slice-2.ensures.value ∙ (ap length c.in_ok-turns.ensures ∙ as_many_counts c.schedule.result.now c.len.result) in
    omega (arith, c.in_ok-spots.ensures.count)

-- the scene, with these turns
abbrev scene_by : List (List Place) → PlainCourse → (ℕ → Option ℕ) → List (Option Spot) → List ℕ → Scene
scene_by places c taker spots turns = record {
  places = places;
  world = c.world;
  began = origins (text_of c.program) c.items;
  taker = taker;
  spots = spots;
  turns = turns;
}

pub returns : goal.returns
returns c =
    let h = c.args.hub.now.course in
    let places = map (λ own. own.items) c.args.places.now in
    let many : c.len.result ≡ length c.in_ok-spots.spots.items = omega (arith, c.in_ok-spots.spots.ok.0) in
    record {
      spots = c.as_slice.result.now;
      stand = subst (AreSpots h) (sym c.as_slice.ensures.value) c.in_ok-spots.ensures.spots;
      left_are = c.in_ok-left.ensures
          ∙ ap (λ turns. all_left (scene_by places h (taker_in c.args.takers.now) c.as_slice.result.now turns) 0 h.world.threads)
          (c.as_slice-2.ensures.value ∙ (c.in_ok-turns.ensures
          ∙ (ap (λ xs. turn_counts xs c.len.result) c.schedule.ensures.items ∙ ap (turn_counts h.items) (many ∙ c.in_ok-spots.ensures.count))));
    }
