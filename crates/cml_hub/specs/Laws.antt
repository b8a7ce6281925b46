-- What holds of every hub.
use Rattle.std.specs.Prelude.{◌≡◌, Some}
use Rattle.cml_step.specs.Calls.{text_of}
use Rattle.cml_hub.specs.Runs.{stands, ending}
use Rattle.cml_hub.specs.Courses.{run_of}
use Rattle.cml_hub.specs.Reports.{AreReports}
use Rattle.cml_hub.specs.Kept.{Kept, NoneDue}

-- A hub with all its reports, as its readers show it: its schedule leads to where it stands, its reports are those of its schedule, and none
-- is due.
pub record IsShown (h : Kept) : Type 0 where
  pub leads : stands (text_of h.course.program) h.course.items ≡ Some (run_of h.course)
  pub reported : AreReports (text_of h.course.program) h.course.items h.watch h.reports
  pub none_due : NoneDue h

-- the two hubs have the same program, budget, watch and schedule
pub record HaveOneSchedule (h k : Kept) : Type 0 where
  pub program : h.course.program ≡ k.course.program
  pub budget : h.budget ≡ k.budget
  pub watch : h.watch ≡ k.watch
  pub items : h.course.items ≡ k.course.items

-- the two hubs have the same output, have used the same, stand in the same way, and have the same reports
pub record ShowTheSame (h k : Kept) : Type 0 where
  pub output : h.course.output ≡ k.course.output
  pub used : h.course.used ≡ k.course.used
  pub end : ending h.budget (run_of h.course) ≡ ending k.budget (run_of k.course)
  pub reports : h.reports ≡ k.reports

-- Two hubs with one schedule show the same. So the replay of a schedule shows what the run did that wrote it, whoever ran it.
abbrev pub OneScheduleOneRun : Type 0
OneScheduleOneRun = (h k : Kept) → IsShown h → IsShown k → HaveOneSchedule h k → ShowTheSame h k
