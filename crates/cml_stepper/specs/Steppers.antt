-- What a stepper knows.
use Rattle.std.specs.Prelude.{List}
use Rattle.cml_hub.specs.Courses.{PlainCourse}
use Rattle.cml_phrase.specs.declared.place.Place.{Place}
use Rattle.cml_facts.specs.Narrators.{places_of, Knows}
use Rattle.cml_stepper.specs.declared.stepper.Stepper.{Stepper}

-- where the statements of its script stand
abbrev pub places_known : Stepper → List (List Place)
places_known s = places_of s.narrator

-- it stands where this course does: it knows what its items did
abbrev pub FollowsTo : PlainCourse → Stepper → Type 0
FollowsTo c s = Knows c s.narrator
