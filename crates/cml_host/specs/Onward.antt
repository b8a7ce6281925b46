-- What one command writes, and another takes.
use Rattle.std.specs.Prelude.{◌≡◌, ◌⊎◌, ℕ, ◌≤◌, Bool, false, List, length, take, Some, slice_get, Contains}
use Rattle.std.specs.List.{All}
use Rattle.cml_check.specs.Sizes.{size_of}
use Rattle.cml_check.specs.Syntax.{Name, PlainItem}
use Rattle.cml_explore.specs.Classes.{PlainClass}
use Rattle.cml_explore.specs.Explored.{PlainExplored, IsExplored}
use Rattle.cml_explore.specs.Laws.{IsOneOfClass}
use Rattle.cml_explore.specs.ShrinkEnds.{EndsAlike, EndsWith, IsGiven}
use Rattle.cml_explore.specs.declared.explored.Asked as many
use Rattle.cml_explore.specs.declared.shrink.replay.Asked.{Asked}
use Rattle.cml_facts.specs.declared.fault.detail.Detail.{Detail}
use Rattle.cml_hub.specs.Kept.{Kept}
use Rattle.cml_hub.specs.Runs.{Run, stands}
use Rattle.cml_schedule.specs.Laws.{IsHeadOf, IsWritable}
use Rattle.cml_schedule.specs.Plans.{PlainPlan}
use Rattle.cml_schedule.specs.Reading.{schedule_limit}
use Rattle.cml_schedule.specs.Written.{schedule_text}
use Rattle.cml_schedule.specs.declared.item.Item.{Item}
use Rattle.cml_step.specs.Calls.{text_of}
use Rattle.cml_arguments.specs.declared.PartOptions.{PartOptions}
use Rattle.cml_host.specs.Closed.{PlainAsked}
use Rattle.cml_host.specs.Drawn.{HasUndrawn}
use Rattle.cml_host.specs.Exploring.{file_of}
use Rattle.cml_host.specs.Narrated.{EndReplied, PlanTold}
use Rattle.cml_host.specs.Plans.{IsPlanFor, Opens}
use Rattle.cml_host.specs.Replaying.{IsNotFollowed, saves_nothing}
use Rattle.cml_host.specs.Replies.{Passage, PlainReply, broken, file}
use Rattle.cml_host.specs.Running.{EndsTold, PlainSaving}
use Rattle.cml_host.specs.Shrunk.{IsShorter}
use Rattle.cml_host.specs.Stores.{Content, bytes}

-- the text of these items, as a schedule of this program under this budget; and what it says
abbrev pub text_for : List (PlainItem ℕ) → ℕ → List Item → List ℕ
text_for p budget items = schedule_text budget (size_of p) items

abbrev pub plan_for : List (PlainItem ℕ) → ℕ → List Item → PlainPlan
plan_for p budget items = record { budget = budget; size = Some (size_of p); items = items }

-- The budget, the size of the program and the numbers of the items are in their ranges, and the text is not too long to be read.
pub record IsReadable (p : List (PlainItem ℕ)) (budget : ℕ) (items : List Item) : Type 0 where
  pub head : IsHeadOf budget (size_of p)
  pub writable : All IsWritable items
  pub short : length (text_for p budget items) ≤ schedule_limit

-- Where this lies, each command takes it for this plan: it does not refuse it, and does not tell of an item that it can't happen.
pub record IsTakenByAll (p : List (PlainItem ℕ)) (content : Content) (plan : PlainPlan) : Type 0 where
  pub reads : IsPlanFor content p plan
  pub only : (other : PlainPlan) → IsPlanFor content p other → other ≡ plan
  pub replayed : (explains : Bool) (name told : List ℕ) (status : ℕ) → IsNotFollowed explains name content p told status → ⊥
  pub explained : (start : Kept) (output : Passage) (reply : PlainReply) → Opens p plan.budget start → PlanTold plan.items start output reply → EndReplied reply ⊎ (reply ≡ broken)
  pub drawn : (options : PartOptions) (told : List ℕ) → HasUndrawn options p plan told → ⊥

-- so each takes the file of a schedule that leads somewhere
abbrev pub WrittenIsTaken : Type 0
WrittenIsTaken = (p : List (PlainItem ℕ)) (budget : ℕ) (items : List Item) (r : Run) → stands (text_of p) items ≡ Some r → IsReadable p budget items
    → IsTakenByAll p (bytes (text_for p budget items)) (plan_for p budget items)

-- A run that is told saves a schedule that leads somewhere; and a replay of that, which does not stop before its end, has the same output.
abbrev pub ToldAgain : Type 0
ToldAgain = (asked again : PlainAsked) (saving : PlainSaving) (name : List ℕ) (p : List (PlainItem ℕ)) (items : List Item) (budget : ℕ) (reply : PlainReply)
    → saving.schedule ≡ Some name → again.stops ≡ false → EndsTold asked saving p items budget reply
    → (told : List Item) × (r : Run) × (stands (text_of p) told ≡ Some r) × Contains reply.files (file asked.explains name (text_for p budget told))
    × ((other : PlainReply) → EndsTold again saves_nothing p told budget other → other.output ≡ reply.output)

-- The file of a class of `explore` has the schedule of a run of that class.
abbrev pub SavedIsOfItsClass : Type 0
SavedIsOfItsClass =
    (p : List (PlainItem ℕ)) (asked : many.Asked) (made : PlainExplored) (start : Name) (budget place number : ℕ) (c : PlainClass) → IsExplored p asked made
    → slice_get made.classes number ≡ Some c → ((file_of start budget p made.classes place number).bytes ≡ text_for p budget c.summary.shortest)
    × IsOneOfClass p asked made.runs c.details c.summary.shortest

-- What `shrink` writes is the text of a schedule that leads somewhere, and ends as the given one does, or as that does up to where its run stops.
abbrev pub ShorterEndsAlike : Type 0
ShorterEndsAlike = (p : List (PlainItem ℕ)) (asked : Asked) (plan : PlainPlan) (text : List ℕ) → IsShorter p asked plan text
    → (items : List Item) × (r : Run) × (text ≡ text_for p plan.budget items) × (stands (text_of p) items ≡ Some r)
    × ((count : ℕ) × (details : List Detail) × IsGiven p asked plan.items count × EndsWith p asked (take count plan.items) details × EndsAlike p asked details items)
