-- What is told of a run of a script: its reports to the errors, and its output and its end line to the output.
use Rattle.std.specs.Prelude.{◌≡◌, ◌≢◌, ℕ, List, ◌++◌, length, codes, Option, Some, Result, Ok, Err}
use Rattle.std.specs.List.{flat_map}
use Rattle.cml_check.specs.Syntax.{PlainItem}
use Rattle.cml_hub.specs.declared.fault.End.{End}
use Rattle.cml_hub.specs.declared.fault.End.TheVariants.{Quiet, Budget, Partial}
use Rattle.cml_hub.specs.Runs.{Run, stands, ending}
use Rattle.cml_hub.specs.Reports.{AreReports, IsDue}
use Rattle.cml_schedule.specs.Reports.{PlainReport, report_text}
use Rattle.cml_scan.specs.Numbers.{spaced}
use Rattle.cml_scan.specs.World.{pending}
use Rattle.cml_schedule.specs.declared.item.Item.{Item}
use Rattle.cml_step.specs.Calls.{text_of}
use Rattle.cml_stream.specs.Streams.{Counted, Takes, TakesStart, stream}
use Rattle.cml_text.specs.Lines.{line}
use Rattle.cml_work.specs.Marks.{BeginsWith}
use Rattle.cml_stream.specs.declared.input_output.WriteFault.{WriteFault}
use Rattle.cml_host.specs.Replies.{Passage}

-- ---- what there is to tell

-- the lines of these reports, one report after another
abbrev pub reports_text : List PlainReport → List ℕ
reports_text reports = flat_map report_text reports

abbrev pub end_name : End → List ℕ
end_name Quiet = codes "quiet"
end_name Budget = codes "budget"
end_name Partial = codes "partial"

-- the end line: how the run ended, and how many threads wait
abbrev pub end_line : End → ℕ → List ℕ
end_line end waiting = line (codes "end " ++ end_name end ++ codes " pending" ++ spaced waiting)

-- the output with the end line of a run under this budget
abbrev pub whole_output : ℕ → Run → List ℕ
whole_output budget r = r.output ++ end_line (ending budget r) (length (pending r.world))

-- the status of a run that ends in this way
abbrev pub end_status : End → ℕ
end_status Quiet = 0
end_status Budget = 4
end_status Partial = 0

-- A run of the program: a schedule, the reports that were made on its way, and where it leads.
pub record IsRunOf (p : List (PlainItem ℕ)) (watch : Option ℕ) (items : List Item) (reports : List PlainReport) (r : Run) : Type 0 where
  pub leads : stands (text_of p) items ≡ Some r
  pub reported : AreReports (text_of p) items watch reports

-- every report was made that was due
abbrev pub AllReported : Option ℕ → List Item → List PlainReport → Type 0
AllReported watch items reports = IsDue watch (length items) (length reports) → ⊥

-- ---- how its reports are told

-- all of them were written to the errors, and no write failed
abbrev pub AreTold : List PlainReport → Passage → Type 0
AreTold reports errors = Takes (stream errors.old.bytes errors.new.bytes) (reports_text reports) × (errors.new.failed ≡ 0)

-- a write of them failed, after a first part
abbrev pub AreCut : List PlainReport → Passage → Type 0
AreCut reports errors = TakesStart (stream errors.old.bytes errors.new.bytes) (reports_text reports) × (errors.new.failed ≡ 1)

-- those that were written while the program ran are not all of them, which begin with them
abbrev pub AreForeign : List PlainReport → Passage → Type 0
AreForeign reports errors = (seen : List PlainReport) × (seen ≢ reports) × BeginsWith reports seen × AreTold seen errors

-- ---- what private functions say

-- how the writing of a text ends: it was written; or a write failed after a prefix of it
abbrev pub IsSentText : List ℕ → Result (Unit {0}) WriteFault → Counted → Type 0
IsSentText text (Ok done) errors = Takes errors.bytes text × (errors.counts.failed ≡ 0)
IsSentText text (Err fault) errors = TakesStart errors.bytes text × (errors.counts.failed ≡ 1)
