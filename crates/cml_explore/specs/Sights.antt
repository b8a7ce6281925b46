-- How the threads of a run are left, and where and why threads of it ended at faults.
use Rattle.std.specs.Prelude.{◌<◌, ℕ, suc, List, [], ◌∷◌, ◌++◌, length, Option, Some, None, option_and_then, option_map, slice_get}
use Rattle.std.specs.Option.{option_or, option_to_list}
use Rattle.cml_value.specs.Value.{PlainFunction}
use Rattle.cml_scan.specs.World.{PlainThread, PlainWorld}
use Rattle.cml_check.specs.Syntax.{PlainItem}
use Rattle.cml_step.specs.Calls.{text_of}
use Rattle.cml_step.specs.Machines.{PlainHeld}
use Rattle.cml_hub.specs.Courses.{PlainCourse}
use Rattle.cml_hub.specs.Deeds.{origins}
use Rattle.cml_phrase.specs.declared.place.Place.{Place}
use Rattle.cml_facts.specs.declared.ending.standing.Spot.{Spot}
use Rattle.cml_facts.specs.declared.ending.left.Stands.{Stands}
use Rattle.cml_facts.specs.Waits.{who_is}
use Rattle.cml_facts.specs.Lefts.{stands_of}
use Rattle.cml_facts.specs.Takes.{takes_of, last_taker}
use Rattle.cml_facts.specs.Standings.{IsSpotOf, call_of_machine, spot_at, spot_place}
use Rattle.cml_facts.specs.Falls.{PlainFall}
use Rattle.cml_facts.specs.Frames.{calls_down}
use Rattle.cml_facts.specs.Reasons.{reason_of}
use Rattle.cml_explore.specs.declared.told.ThreadLeft.{ThreadLeft}
use Rattle.cml_explore.specs.declared.told.ThreadState.{ThreadState}
use Rattle.cml_explore.specs.declared.told.ThreadState.TheVariants as states

-- What is known of a run: where the statements of each function stand, the program, the world, the function with which each thread began, the
-- thread that took last from an M-variable, the threads that ended at faults, where each thread stands, and where the call below the top one stood
-- of those that ended at faults.
pub record Sight : Type 0 where
  pub places : List (List Place)
  pub program : List (PlainItem ℕ)
  pub world : PlainWorld
  pub began : List PlainFunction
  pub taker : ℕ → Option ℕ
  pub falls : ℕ → Option PlainFall
  pub spots : List (Option Spot)
  pub below : List (Option Spot)

-- of a run that has come so far
abbrev pub sight_of : List (List Place) → PlainCourse → (ℕ → Option PlainFall) → List (Option Spot) → List (Option Spot) → Sight
sight_of places c falls spots below = record {
  places = places;
  program = c.program;
  world = c.world;
  began = origins (text_of c.program) c.items;
  taker = last_taker (takes_of (text_of c.program) c.items);
  falls = falls;
  spots = spots;
  below = below;
}

-- the top call of a thread; of one that ended at a fault, that before its last step
abbrev pub call_told : Option PlainHeld → Option PlainFall → Option PlainHeld
call_told here None = here
call_told here (Some fall) = call_of_machine fall.machine

abbrev pub call_of_thread : PlainCourse → (ℕ → Option PlainFall) → ℕ → Option PlainHeld
call_of_thread c falls t = call_told (option_and_then call_of_machine (slice_get c.machines t)) (falls t)

-- these are the spots of all threads, by number
abbrev pub AreSpotsToTell : PlainCourse → (ℕ → Option PlainFall) → List (Option Spot) → Type 0
AreSpotsToTell c falls spots = (t : ℕ) → t < length c.world.threads → IsSpotOf c.program (call_of_thread c falls t) (spot_at spots t)

-- of a thread that ended at a fault the call below its top call, before its last step
abbrev pub call_below : Option PlainFall → Option PlainHeld
call_below None = None
call_below (Some fall) = slice_get (calls_down fall.machine.stack) 1

-- these are the spots of those calls, by number of the thread
abbrev pub AreSpotsBelow : PlainCourse → (ℕ → Option PlainFall) → List (Option Spot) → Type 0
AreSpotsBelow c falls below = (t : ℕ) → t < length c.world.threads → IsSpotOf c.program (call_below (falls t)) (spot_at below t)

-- where a thread stands in the text; where its top call is at no statement there, where the call below it is
abbrev pub place_told : Sight → ℕ → Option Place
place_told s t = option_or (option_and_then (spot_place s.places) (spot_at s.spots t)) (option_and_then (spot_place s.places) (spot_at s.below t))

-- a thread that ended at a fault, and why; of one that ended otherwise there is nothing
abbrev pub fault_state : Sight → Option PlainFall → Option ThreadState
fault_state s None = None
fault_state s (Some fall) = Some (states.AtFault (reason_of s.program fall.machine fall.ask))

-- a thread that waits or runs is left so; one that has ended may have ended at a fault
abbrev pub state_or_fault : Sight → ℕ → Option Stands → Option ThreadState
state_or_fault s t (Some stands) = Some (states.Stands stands)
state_or_fault s t None = fault_state s (s.falls t)

abbrev pub state_told : Sight → ℕ → PlainThread → Option ThreadState
state_told s t thread = state_or_fault s t (stands_of s.world s.began s.taker thread)

-- the thread of this number, in this state
abbrev pub thread_left : Sight → ℕ → ThreadState → ThreadLeft
thread_left s t state = record {
  thread = who_is s.began t;
  place = place_told s t;
  state = state;
}

abbrev pub thread_told : Sight → ℕ → PlainThread → Option ThreadLeft
thread_told s t thread = option_map (thread_left s t) (state_told s t thread)

-- those of these threads, of which the first has this number
abbrev pub threads_told : Sight → ℕ → List PlainThread → List ThreadLeft
threads_told s t [] = []
threads_told s t (thread ∷ threads) = option_to_list (thread_told s t thread) ++ threads_told s (suc t) threads
