-- How a schedule of a program ends.
use Rattle.std.specs.Prelude.{ℕ, ◌≡◌, ◌⊎◌, Bool, MatchBool, true, false, List, length, Option, Some, None, Result, Ok, Err}
use Rattle.std.specs.declared.alloc.AllocError.{AllocError}
use Rattle.cml_check.specs.Syntax.{PlainItem}
use Rattle.cml_step.specs.Calls.{text_of}
use Rattle.cml_schedule.specs.declared.item.Item.{Item}
use Rattle.cml_hub.specs.declared.fault.ReplayFault.{ReplayFault}
use Rattle.cml_hub.specs.declared.fault.ReplayFault.TheVariants as replay_fault
use Rattle.cml_hub.specs.Runs.{stands}
use Rattle.cml_hub.specs.Courses.{run_of}
use Rattle.cml_hub.specs.Kept.{Kept, IsFirstBad}
use Rattle.cml_facts.specs.declared.fault.detail.Detail.{Detail}
use Rattle.cml_facts.specs.Details.{alike}
use Rattle.cml_judge.specs.Judgements.{AreEndDetails, AreStopDetails}
use Rattle.cml_judge.specs.Stops.{StopsAfter, StopsBehind}
use Rattle.cml_explore.specs.declared.shrink.fault.ShrinkFault.{ShrinkFault}
use Rattle.cml_explore.specs.declared.shrink.replay.Asked.{Asked}
use Rattle.cml_explore.specs.declared.shrink.fault.ShrinkFault.TheVariants.{BadItem, NoBreak, Memory}

-- By these details a run is held against others: how it ended, and what it breaks; or, where it is to stop, which threads ended at faults and how, and
-- what it breaks.
abbrev pub AreAskedDetails : Asked → Kept → List Detail → Type 0
AreAskedDetails asked h details = MatchBool asked.stops (AreStopDetails asked.properties.now h details) (AreEndDetails asked.properties.now h details)

-- The items can be followed from the start, each of them allowed where it stands; a hub of this program and of the budget that is asked for stands where
-- they lead; and these are the details of that run.
pub record EndsWith (p : List (PlainItem ℕ)) (asked : Asked) (items : List Item) (details : List Detail) : Type 0 where
  pub hub : Kept
  pub program : hub.course.program ≡ p
  pub budget_is : hub.budget ≡ asked.budget
  pub items_are : hub.course.items ≡ items
  pub leads : stands (text_of p) items ≡ Some (run_of hub.course)
  pub told : AreAskedDetails asked hub details

-- The items can be followed from the start, and end alike: as these details say.
abbrev pub EndsAlike : List (PlainItem ℕ) → Asked → List Detail → List Item → Type 0
EndsAlike p asked details items = (own : List Detail) × EndsWith p asked items own × (alike own details ≡ true)

-- The items can be followed from the start, and end otherwise.
abbrev pub EndsOtherwise : List (PlainItem ℕ) → Asked → List Detail → List Item → Type 0
EndsOtherwise p asked details items = (own : List Detail) × EndsWith p asked items own × (alike own details ≡ false)

-- The items can't be followed from the start, or they end otherwise.
abbrev pub IsUnlike : List (PlainItem ℕ) → Asked → List Detail → List Item → Type 0
IsUnlike p asked details items = (stands (text_of p) items ≡ None) ⊎ EndsOtherwise p asked details items

-- why these items can't be followed: the first one that is not allowed where it stands has this number, counted from 1; or memory ran out
abbrev pub IsRefused : List (PlainItem ℕ) → List Item → ShrinkFault → Type 0
IsRefused p items (BadItem number) = IsFirstBad p items number × (stands (text_of p) items ≡ None)
IsRefused p items NoBreak = ⊥
IsRefused p items Memory = Unit {0}

-- So many of the items are made shorter: those up to where their run stops, where it is to stop; or all.
abbrev pub IsGiven : List (PlainItem ℕ) → Asked → List Item → ℕ → Type 0
IsGiven p asked items count = MatchBool asked.stops (StopsBehind asked.properties.now (text_of p) items count) (count ≡ length items)

-- why there are none: they can't be followed; or their run is to stop, and does not; or memory ran out
abbrev pub IsNotGiven : List (PlainItem ℕ) → Asked → List Item → ShrinkFault → Type 0
IsNotGiven p asked items NoBreak = (asked.stops ≡ true) × StopsAfter asked.properties.now (text_of p) items None
IsNotGiven p asked items why = IsRefused p items why

-- ---- what private functions say

-- these are the details of how the run of a hub ended; its schedule leads to where it stands
pub record HubEndsWith (asked : Asked) (h : Kept) (details : List Detail) : Type 0 where
  pub leads : stands (text_of h.course.program) h.course.items ≡ Some (run_of h.course)
  pub told : AreAskedDetails asked h details

-- the fault of a replay, without the program
abbrev pub IsWhy : ReplayFault → ShrinkFault → Type 0
IsWhy (replay_fault.BadItem number back) why = why ≡ BadItem number
IsWhy (replay_fault.Memory back) why = why ≡ Memory

-- how many items there are where a run stops so, or that it does not
abbrev pub given_by : Result (Option ℕ) AllocError → Result ℕ ShrinkFault
given_by (Ok (Some count)) = Ok count
given_by (Ok None) = Err NoBreak
given_by (Err e) = Err Memory

-- whether the items can be followed from the start and end alike
abbrev pub IsLikeTheGiven : List (PlainItem ℕ) → Asked → List Detail → List Item → Bool → Type 0
IsLikeTheGiven p asked details items true = EndsAlike p asked details items
IsLikeTheGiven p asked details items false = IsUnlike p asked details items
