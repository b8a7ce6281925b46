-- How a schedule is read: line by line, up to the first line that does not fit.
use Rattle.std.specs.Prelude.{◌≡◌, ◌⊎◌, ℕ, ◌+◌, ◌<◌, ◌≤◌, List, [], ◌∷◌, length, Some, None, Result, Ok, Err}
use Rattle.cml_text.specs.Faults.{PlainFault}
use Rattle.cml_text.specs.Forms.{PlainSexpr}
use Rattle.cml_text.specs.Lines.{lines}
use Rattle.cml_text.specs.Texts.{Spells, fault_of}
use Rattle.cml_schedule.specs.declared.line.State.{State}
use Rattle.cml_schedule.specs.declared.line.State.TheVariants.{Opening, Reading, Closed}
use Rattle.cml_schedule.specs.declared.fault.ScheduleFault.{ScheduleFault}
use Rattle.cml_schedule.specs.declared.fault.ScheduleFault.TheVariants as fault
use Rattle.cml_schedule.specs.Plans.{PlainPlan}
use Rattle.cml_schedule.specs.Lines.{after_line}

-- the line spells forms that lead from one state to the next
abbrev pub LineFits : State → List ℕ → State → Type 0
LineFits state line next = (forms : List PlainSexpr) × Spells line forms × (after_line state forms ≡ Some next)

-- the line spells no forms, or forms that do not fit here
abbrev pub DoesNotFit : State → List ℕ → Type 0
DoesNotFit state line =
    ((found : PlainFault) × (fault_of line ≡ Some found))
    ⊎ ((forms : List PlainSexpr) × Spells line forms × (after_line state forms ≡ None))

-- what stands at the end of the text: the plan, if it was closed; else the number of the line where more was expected
abbrev pub at_end : ℕ → State → Result PlainPlan ℕ
at_end n Opening = Err n
at_end n (Reading plan) = Err n
at_end n (Closed plan) = Ok plan

-- What these lines, the first of which has this number, are read as from this state on: a plan, or the number of the first line that does
-- not fit.
abbrev pub LeadsTo : ℕ → State → List (List ℕ) → Result PlainPlan ℕ → Type 0
LeadsTo n state [] found = found ≡ at_end n state
LeadsTo n state (line ∷ behind) found =
    ((next : State) × LineFits state line next × LeadsTo (n + 1) next behind found)
    ⊎ (DoesNotFit state line × (found ≡ Err n))

-- what the whole text is read as
abbrev pub ScheduleReadsAs : List ℕ → Result PlainPlan ℕ → Type 0
ScheduleReadsAs text found = LeadsTo 1 Opening (lines text) found

-- the most bytes of a schedule
abbrev pub schedule_limit : ℕ
schedule_limit = 67108864

-- A text that is too long is read as nothing. Else it is the plan that it is read as, or the number of the first line that does not fit,
-- unless memory ran out.
abbrev pub IsRead : List ℕ → Result PlainPlan ScheduleFault → Type 0
IsRead text (Ok plan) = (length text ≤ schedule_limit) × ScheduleReadsAs text (Ok plan)
IsRead text (Err (fault.Line n)) = (length text ≤ schedule_limit) × ScheduleReadsAs text (Err n)
IsRead text (Err fault.TooLong) = schedule_limit < length text
IsRead text (Err fault.Memory) = length text ≤ schedule_limit
