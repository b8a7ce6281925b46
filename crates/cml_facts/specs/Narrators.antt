-- What a narrator knows.
use Rattle.std.specs.Prelude.{◌≡◌, ℕ, ◌-◌, if◌then◌else◌, List, map, Option}
use Rattle.cml_check.specs.Syntax.{PlainItem}
use Rattle.cml_step.specs.Asks.{PlainAsk}
use Rattle.cml_step.specs.Calls.{text_of}
use Rattle.cml_step.specs.Machines.{PlainMachine, machine_term}
use Rattle.cml_step.specs.Slices.{sliced_from}
use Rattle.cml_hub.specs.Courses.{PlainCourse}
use Rattle.cml_phrase.specs.declared.place.Place.{Place}
use Rattle.cml_facts.specs.declared.ending.standing.Spot.{Spot}
use Rattle.cml_facts.specs.Standings.{IsSpotOf, call_of_machine}
use Rattle.cml_facts.specs.Takes.{KnowsTakers}
use Rattle.cml_facts.specs.declared.narrative.narrator.Narrator.{Narrator}
use Rattle.cml_facts.specs.Turns.{is_fault_ask}

-- where the statements of its program stand
abbrev pub places_of : Narrator → List (List Place)
places_of n = map (λ own. own.items) n.places.items

-- it knows which thread took from each M-variable last in this course
abbrev pub Knows : PlainCourse → Narrator → Type 0
Knows c n = KnowsTakers (text_of c.program) c.items n.takers

-- the spot is that of a machine that stands where a slice asks this: at its end, or at a fault before its last step
abbrev pub StandsAsking : List (PlainItem ℕ) → PlainMachine → PlainAsk → PlainMachine → ℕ → Option Spot → Type 0
StandsAsking p start a end steps spot =
    (m : PlainMachine) × (machine_term p m ≡ (if is_fault_ask a then (sliced_from (text_of p) start.thread (steps - 1) 0 (machine_term p start)).end else machine_term p end))
    × IsSpotOf p (call_of_machine m) spot
