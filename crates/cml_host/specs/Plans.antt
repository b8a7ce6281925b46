-- Schedules, as the commands read them: what a text says, or why it is no schedule of a program.
use Rattle.std.specs.Prelude.{◌≡◌, ◌≢◌, ◌⊎◌, ℕ, ◌+◌, ◌<◌, ◌≤◌, Bool, true, List, [], ◌∷◌, ◌++◌, length, codes, None, Some, Ok, Err}
use Rattle.std.specs.Fmt.{decimal}
use Rattle.cml_check.specs.Syntax.{PlainItem}
use Rattle.cml_hub.specs.Courses.{run_of}
use Rattle.cml_hub.specs.Kept.{Kept, FitsSize, IsAtStart}
use Rattle.cml_hub.specs.Runs.{stands}
use Rattle.cml_schedule.specs.Plans.{PlainPlan}
use Rattle.cml_schedule.specs.Reading.{ScheduleReadsAs, schedule_limit}
use Rattle.cml_step.specs.Calls.{text_of}
use Rattle.cml_text.specs.Faults.{PlainFault}
use Rattle.cml_text.specs.Forms.{PlainSexpr}
use Rattle.cml_text.specs.Lines.{line}
use Rattle.cml_text.specs.Texts.{Spells, fault_of}
use Rattle.cml_host.specs.Refused.{Fault, IsExplained, IsUnread}
use Rattle.cml_host.specs.Scripts.{PlainScript, IsWholeText, IsOpened, IsNoScript}
use Rattle.cml_host.specs.Stores.{Content}
use Rattle.cml_host.specs.declared.opening.Opened.{Opened}

-- the text is a schedule that says this
abbrev pub IsSchedule : List ℕ → PlainPlan → Type 0
IsSchedule text plan = (length text ≤ schedule_limit) × ScheduleReadsAs text (Ok plan)

-- what lies there is a schedule that says this
abbrev pub IsPlan : Content → PlainPlan → Type 0
IsPlan content plan = (text : List ℕ) × IsWholeText content text × IsSchedule text plan

-- the text is no schedule, and this tells why: it is too long, or it has a line that does not fit, which may be explained
abbrev pub IsNoSchedule : Bool → List ℕ → Fault
IsNoSchedule explains text told status =
    (((schedule_limit < length text) × (told ≡ line (codes "schedule too long")))
    ⊎ ((length text ≤ schedule_limit) × ((n : ℕ) × ScheduleReadsAs text (Err n) × IsExplained explains (line (codes "schedule line " ++ decimal n)) told)))
    × (status ≡ 3)

-- why what lies under this name is no schedule
abbrev pub IsNoPlan : Bool → List ℕ → Content → Fault
IsNoPlan explains name content told status =
    ((text : List ℕ) × IsWholeText content text × IsNoSchedule explains text told status) ⊎ IsUnread explains name content told status

-- a schedule of this program, by its size
abbrev pub IsPlanFor : Content → List (PlainItem ℕ) → PlainPlan → Type 0
IsPlanFor content p plan = IsPlan content plan × FitsSize plan.size p

-- why it is none: or it is of a program of another size
abbrev pub IsNoPlanFor : Bool → List ℕ → Content → List (PlainItem ℕ) → Fault
IsNoPlanFor explains name content p told status =
    IsNoPlan explains name content told status
    ⊎ ((plan : PlainPlan) × IsPlan content plan × (FitsSize plan.size p → ⊥) × (told ≡ line (codes "schedule program")) × (status ≡ 3))

-- what is told of the item of this number, counted from 1, which can't happen where it stands
abbrev pub IsItemTold : Bool → ℕ → List ℕ → Type 0
IsItemTold explains n told = IsExplained explains (line (codes "schedule item " ++ decimal n)) told

-- What lies under the two names is this script, and this a schedule of its program.
abbrev pub AreBoth : List ℕ → List ℕ → (List ℕ → Content) → PlainScript → PlainPlan → Type 0
AreBoth script schedule held s plan = IsOpened (held script) s × IsPlanFor (held schedule) s.program plan

-- why they are not
abbrev pub AreNotBoth : List ℕ → List ℕ → (List ℕ → Content) → Fault
AreNotBoth script schedule held told status =
    IsNoScript true script (held script) told status
    ⊎ ((s : PlainScript) × IsOpened (held script) s × IsNoPlanFor true schedule (held schedule) s.program told status)

-- the hub at the beginning of a run of the program, under this budget
pub record Opens (p : List (PlainItem ℕ)) (budget : ℕ) (h : Kept) : Type 0 where
  pub start : IsAtStart p budget None h
  pub leads : stands (text_of h.course.program) h.course.items ≡ Some (run_of h.course)

-- ---- where an item stands in a schedule

-- a line says something: it spells forms, or none can be read
abbrev pub SaysSomething : List ℕ → Type 0
SaysSomething says =
    ((forms : List PlainSexpr) × Spells says forms × (forms ≢ [])) ⊎ ((found : PlainFault) × (fault_of says ≡ Some found))

-- Of these lines, the first of which has number n, the one of number `at` is the first that says something behind so many others that do.
abbrev pub IsLineBehind : ℕ → ℕ → List (List ℕ) → ℕ → Type 0
IsLineBehind others n [] at = at ≡ n
IsLineBehind others n (says ∷ behind) at =
    (Spells says [] × IsLineBehind others (n + 1) behind at)
    ⊎ (SaysSomething says × (((others ≡ 0) × (at ≡ n)) ⊎ ((left : ℕ) × (others ≡ left + 1) × IsLineBehind left (n + 1) behind at)))

-- ---- what private functions say

-- the program and the schedule were read that lie under these names
abbrev pub AreOpened : List ℕ → List ℕ → (List ℕ → Content) → Opened → Type 0
AreOpened script schedule held both =
    (s : PlainScript) × (both.program ≡ s.program) × AreBoth script schedule held s both.plan
