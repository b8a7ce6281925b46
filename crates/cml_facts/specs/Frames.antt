-- The calls on a thread's stack, and where they stand.
use Rattle.std.specs.Prelude.{◌≡◌, ℕ, ◌<◌, List, [], ◌∷◌, length, reverse, Option, Some, slice_get, option_and_then}
use Rattle.std.specs.List.{filter_map}
use Rattle.cml_value.specs.Value.{PlainValue}
use Rattle.cml_check.specs.Syntax.{PlainItem}
use Rattle.cml_step.specs.Machines.{PlainHeld, call}
use Rattle.cml_phrase.specs.declared.place.Place.{Place}
use Rattle.cml_phrase.specs.Spots.{statement_place}
use Rattle.cml_facts.specs.Standings.{as_call, StandsWhere}
use Rattle.cml_facts.specs.declared.fault.frame.Frame.{Frame}

-- the calls of a stack, whose top entry is its last, from the top
abbrev pub calls_down : List PlainHeld → List PlainHeld
calls_down stack = filter_map as_call (reverse stack)

-- The frame is the call's: its function, the statement of it at which the call stands, and where that begins, where the statements of each function
-- begin so.
abbrev pub IsFrame : List (List Place) → List (PlainItem ℕ) → Option PlainHeld → Option Frame → Type 0
IsFrame places p (Some (call f at slots w)) (Some frame) =
    (frame.function ≡ f) × StandsWhere p f at slots w frame.statement × (frame.place ≡ option_and_then (statement_place places f) frame.statement)
IsFrame places p h frame = ⊥

-- these are the frames of the calls
pub record AreFrames (places : List (List Place)) (p : List (PlainItem ℕ)) (calls : List PlainHeld) (frames : List Frame) : Type 0 where
  pub count : length frames ≡ length calls
  pub each : (i : ℕ) → i < length calls → IsFrame places p (slice_get calls i) (slice_get frames i)

-- the values of the slots of the first call
abbrev pub first_values : List PlainHeld → List PlainValue
first_values (call f at slots w ∷ calls) = slots
first_values calls = []
