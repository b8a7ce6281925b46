use Rattle.std.proofs.Common.{ℕ, length, Result}
use Rattle.cml_schedule.specs.Plans.{PlainPlan}
use Rattle.cml_schedule.specs.Reading.{LeadsTo, ScheduleReadsAs}
use Rattle.cml_schedule.proofs.read.read_schedule.Given as goal

-- what the lines that are left are read as, the whole text is read as
abbrev pub invariant-loop-number : goal.invariant-loop-number
invariant-loop-number l = (found : Result PlainPlan ℕ) → LeadsTo l.lines.number l.state l.lines.left found → ScheduleReadsAs l.text found

abbrev pub decreases-loop-number : goal.decreases-loop-number
decreases-loop-number l = length l.lines.left
