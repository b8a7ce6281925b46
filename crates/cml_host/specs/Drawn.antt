-- The command `draw`: the picture of the schedule of a script.
use Rattle.std.specs.Prelude.{◌≡◌, ◌⊎◌, ℕ, true, List, length, take, Option, Some, None}
use Rattle.cml_check.specs.Syntax.{PlainItem}
use Rattle.cml_picture.specs.Draws.{Draws, HasUnfit, IsTooLong}
use Rattle.cml_hub.specs.Courses.{PlainCourse}
use Rattle.cml_hub.specs.Kept.{Kept}
use Rattle.cml_schedule.specs.Plans.{PlainPlan}
use Rattle.cml_schedule.specs.declared.item.Item.{Item}
use Rattle.cml_arguments.specs.declared.PartOptions.{PartOptions}
use Rattle.cml_host.specs.Plans.{AreBoth, AreNotBoth, IsItemTold, Opens}
use Rattle.cml_host.specs.Refused.{Fault}
use Rattle.cml_host.specs.Replies.{PlainReply, TextOr}
use Rattle.cml_host.specs.Scripts.{PlainScript}
use Rattle.cml_host.specs.Stores.{Content}

-- the number of the last item that is drawn: that which is asked for, or the last of all
abbrev pub last_drawn : Option ℕ → List Item → ℕ
last_drawn None items = length items
last_drawn (Some last) items = last

-- This is the picture of some of these items, from the one number to the other, where they lead from the beginning of a run of the program on
-- under this budget.
abbrev pub IsDrawnFrom : List (PlainItem ℕ) → ℕ → List Item → ℕ → ℕ → List ℕ → Type 0
IsDrawnFrom p budget items from to picture =
    (start : Kept) × Opens p budget start × ((end : PlainCourse) × Draws start.course items from to end picture)

-- they show too much
abbrev pub IsTooLongFrom : List (PlainItem ℕ) → ℕ → List Item → ℕ → ℕ → Type 0
IsTooLongFrom p budget items from to =
    (start : Kept) × Opens p budget start × ((end : PlainCourse) × IsTooLong start.course items from to end)

-- one of the items up to the last one that is asked for can't happen where those before it lead, and this tells which
abbrev pub HasUndrawn : PartOptions → List (PlainItem ℕ) → PlainPlan → List ℕ → Type 0
HasUndrawn options p plan told =
    (start : Kept) × Opens p plan.budget start
    × ((end : PlainCourse) × (number : ℕ) × HasUnfit start.course (take (last_drawn options.to plan.items) plan.items) number end × IsItemTold true number told)

-- this is the picture of the schedule of the plan
abbrev pub IsPlanDrawn : PartOptions → List (PlainItem ℕ) → PlainPlan → List ℕ → Type 0
IsPlanDrawn options p plan picture = IsDrawnFrom p plan.budget plan.items options.from (last_drawn options.to plan.items) picture

-- this is the picture of the schedule that lies under its name, as one of the script that lies under its own
abbrev pub IsDrawing : PartOptions → (List ℕ → Content) → List ℕ → Type 0
IsDrawing options held picture =
    (s : PlainScript) × (plan : PlainPlan) × AreBoth options.script.now options.schedule.now held s plan × IsPlanDrawn options s.program plan picture

-- why a schedule is not drawn: an item can't happen, or there is too much to draw
abbrev pub IsPlanUndrawn : PartOptions → List (PlainItem ℕ) → PlainPlan → Fault
IsPlanUndrawn options p plan told status =
    (HasUndrawn options p plan told × (status ≡ 3))
    ⊎ (IsTooLongFrom p plan.budget plan.items options.from (last_drawn options.to plan.items) × (status ≡ 1))

-- why there is no picture
abbrev pub IsUndrawn : PartOptions → (List ℕ → Content) → Fault
IsUndrawn options held told status =
    AreNotBoth options.script.now options.schedule.now held told status
    ⊎ ((s : PlainScript) × (plan : PlainPlan) × AreBoth options.script.now options.schedule.now held s plan × IsPlanUndrawn options s.program plan told status)

-- `draw`: the picture, or why there is none
abbrev pub DrawOutcome : PartOptions → (List ℕ → Content) → PlainReply → Type 0
DrawOutcome options held = TextOr (IsDrawing options held) (IsUndrawn options held)

-- ---- what private functions say

-- this is the picture of those of these items that are asked for, from one course on
abbrev pub AreDrawn : PartOptions → PlainCourse → List Item → List ℕ → Type 0
AreDrawn options start items picture = (end : PlainCourse) × Draws start items options.from (last_drawn options.to items) end picture

-- or why there is none
abbrev pub AreUndrawn : PartOptions → PlainCourse → List Item → Fault
AreUndrawn options start items told status =
    ((end : PlainCourse) × (number : ℕ) × HasUnfit start (take (last_drawn options.to items) items) number end × IsItemTold true number told × (status ≡ 3))
    ⊎ (((end : PlainCourse) × IsTooLong start items options.from (last_drawn options.to items) end) × (status ≡ 1))

-- This is the picture of all these items, from one course on; or none, where they show too much.
abbrev pub AllDrawn : PlainCourse → List Item → Option (List ℕ) → Type 0
AllDrawn start items (Some picture) = (end : PlainCourse) × Draws start items 1 (length items) end picture
AllDrawn start items None = (end : PlainCourse) × IsTooLong start items 1 (length items) end
