-- What is known of the faults of a run.
use Rattle.std.specs.Prelude.{◌≡◌, ◌-◌, List, length}
use Rattle.cml_text.specs.Forms.{PlainSexpr}
use Rattle.cml_step.specs.Calls.{text_of}
use Rattle.cml_hub.specs.Courses.{PlainCourse}
use Rattle.cml_hub.specs.Deeds.{origins}
use Rattle.cml_phrase.specs.declared.place.Place.{Place}
use Rattle.cml_facts.specs.declared.fault.faults.Faults.{Faults}
use Rattle.cml_facts.specs.Failures.{failures, fault_limit, first_failures}
use Rattle.cml_facts.specs.ThreadFaults.{Known, AreThreadFaults}

-- what is known where a schedule has led
abbrev pub known_where : List PlainSexpr → List (List Place) → PlainCourse → Known
known_where forms places c = record { forms = forms; places = places; began = origins (text_of c.program) c.items }

-- The first 20 threads that ended at faults, in the order in which they did, and how many more did. Where two statements fit a call that waits,
-- either may be told.
pub record FaultedSo (forms : List PlainSexpr) (places : List (List Place)) (c : PlainCourse) (faults : Faults) : Type 0 where
  pub first : AreThreadFaults (known_where forms places c) c.program (first_failures (text_of c.program) c.items) faults.first.items
  pub others : faults.others ≡ length (failures (text_of c.program) c.items) - fault_limit
