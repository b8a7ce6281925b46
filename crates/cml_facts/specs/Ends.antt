-- How a run ended.
use Rattle.std.specs.Prelude.{◌≡◌, ℕ, ◌-◌, List, length, count_by, slice_get, Option, option_map}
use Rattle.cml_scan.specs.World.{PlainWorld, pending}
use Rattle.cml_book.specs.Walks.{runs}
use Rattle.cml_step.specs.Calls.{text_of}
use Rattle.cml_hub.specs.Runs.{ending}
use Rattle.cml_hub.specs.Courses.{PlainCourse, run_of}
use Rattle.cml_hub.specs.Deeds.{origins, fault_count}
use Rattle.cml_hub.specs.Kept.{Kept}
use Rattle.cml_phrase.specs.declared.place.Place.{Place}
use Rattle.cml_facts.specs.declared.ending.ending.Ending.{Ending}
use Rattle.cml_facts.specs.declared.ending.left.Left.{Left}
use Rattle.cml_facts.specs.declared.ending.standing.Spot.{Spot}
use Rattle.cml_facts.specs.Takes.{takes_of, last_taker}
use Rattle.cml_facts.specs.Rings.{told_ring}
use Rattle.cml_facts.specs.Standings.{AreSpots}
use Rattle.cml_facts.specs.Lefts.{Scene, turn_counts, all_left}

-- where a schedule has led, if these threads took last from M-variables
abbrev pub scene_of : List (List Place) → PlainCourse → (ℕ → Option ℕ) → List (Option Spot) → Scene
scene_of places c taker spots = record {
  places = places;
  world = c.world;
  began = origins (text_of c.program) c.items;
  taker = taker;
  spots = spots;
  turns = turn_counts c.items (length c.world.threads);
}

-- These are the threads that are left, by number. A call that waits stands at a statement that has it wait; where there are two such, either
-- may be told.
pub record AreLeft (places : List (List Place)) (c : PlainCourse) (taker : ℕ → Option ℕ) (left : List Left) : Type 0 where
  pub spots : List (Option Spot)
  pub stand : AreSpots c spots
  pub left_are : left ≡ all_left (scene_of places c taker spots) 0 c.world.threads

-- how many threads run
abbrev pub run_count : PlainWorld → ℕ
run_count w = count_by runs w.threads

-- the thread that took last from an M-variable in a course
abbrev pub taker_of : PlainCourse → ℕ → Option ℕ
taker_of c = last_taker (takes_of (text_of c.program) c.items)

-- how the run of a hub ended; these are the places of the statements of its program's functions
pub record IsEnding (places : List (List Place)) (h : Kept) (e : Ending) : Type 0 where
  pub end : e.end ≡ ending h.budget (run_of h.course)
  pub budget : e.budget ≡ h.budget
  pub items : e.items ≡ length h.course.items
  pub last : e.last ≡ slice_get h.course.items (length h.course.items - 1)
  pub waits : e.waits ≡ length (pending h.course.world)
  pub runs : e.runs ≡ run_count h.course.world
  pub left : AreLeft places h.course (taker_of h.course) e.left.items
  pub ring : option_map (λ ring. ring.items) e.ring ≡ told_ring h.course.world (taker_of h.course)
  pub faults : e.faults ≡ fault_count (text_of h.course.program) h.course.items
