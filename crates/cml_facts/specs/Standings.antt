-- Where a thread stands.
use Rattle.std.specs.Prelude.{◌≡◌, ℕ, ◌<◌, List, [], ◌∷◌, length, Option, Some, None, IfSome, option_and_then, slice_get, slice_index_or}
use Rattle.std.specs.Option.{option_or}
use Rattle.cml_value.specs.Value.{PlainValue}
use Rattle.cml_check.specs.Syntax.{PlainItem}
use Rattle.cml_step.specs.declared.call.Wait.{Wait}
use Rattle.cml_step.specs.declared.call.Wait.TheVariants as wait
use Rattle.cml_step.specs.Calls.{placed_in}
use Rattle.cml_step.specs.Machines.{PlainHeld, call, PlainMachine}
use Rattle.cml_step.specs.Standing.{StandsIn}
use Rattle.cml_hub.specs.Courses.{PlainCourse}
use Rattle.cml_phrase.specs.declared.place.Place.{Place}
use Rattle.cml_phrase.specs.Spots.{statement_place}
use Rattle.cml_facts.specs.declared.ending.standing.Spot.{Spot}

-- an entry, if it is a call
abbrev pub as_call : PlainHeld → Option PlainHeld
as_call (call f at slots w) = Some (call f at slots w)
as_call h = None

-- the top call of these entries, of which the top one is the last
abbrev pub top_call : List PlainHeld → Option PlainHeld
top_call [] = None
top_call (h ∷ hs) = option_or (top_call hs) (as_call h)

-- A call that runs stands at the statement that is next. One that waits stands at a statement that has it wait, if one is told.
abbrev pub StandsWhere : List (PlainItem ℕ) → ℕ → ℕ → List PlainValue → Wait → Option ℕ → Type 0
StandsWhere p f at slots wait.Runs statement = f < length p → statement ≡ Some at
StandsWhere p f at slots w statement = IfSome statement (λ n. StandsIn (slice_get p f) n (placed_in (slice_get p f) at slots w))

-- The spot is where the call stands: its function, and its statement. There is none where there is no call.
abbrev pub IsSpotOf : List (PlainItem ℕ) → Option PlainHeld → Option Spot → Type 0
IsSpotOf p (Some (call f at slots w)) (Some spot) = (spot.function ≡ f) × StandsWhere p f at slots w spot.statement
IsSpotOf p (Some entry) spot = ⊥
IsSpotOf p None spot = spot ≡ None

-- that of a thread
abbrev pub spot_at : List (Option Spot) → ℕ → Option Spot
spot_at spots t = slice_index_or spots t None

-- the top call of a machine
abbrev pub call_of_machine : PlainMachine → Option PlainHeld
call_of_machine m = top_call m.stack

-- these are the spots of all threads, by number: each is that of its machine's top call
abbrev pub AreSpots : PlainCourse → List (Option Spot) → Type 0
AreSpots c spots = (t : ℕ) → t < length c.world.threads → IsSpotOf c.program (option_and_then call_of_machine (slice_get c.machines t)) (spot_at spots t)

-- where a spot is in the text: these are the places of the statements of each function
abbrev pub spot_place : List (List Place) → Spot → Option Place
spot_place places spot = option_and_then (statement_place places spot.function) spot.statement
