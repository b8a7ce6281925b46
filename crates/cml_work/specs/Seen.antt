-- What a watcher writes.
use Rattle.std.specs.Prelude.{ℕ, List, [], Option, Some, None, Result, Ok, Err}
use Rattle.std.specs.List.{flat_map}
use Rattle.cml_schedule.specs.Reports.{PlainReport, report_text}
use Rattle.cml_stream.specs.Counts.{counted}
use Rattle.cml_stream.specs.Streams.{Stream, Takes, TakesStart}
use Rattle.cml_work.specs.Marks.{BeginsWith}
use Rattle.cml_work.specs.declared.fault.WatchFault.{WatchFault}
use Rattle.cml_work.specs.declared.fault.WatchFault.TheVariants as watch_fault
use Rattle.cml_work.specs.declared.fault.WorkFault.{WorkFault}
use Rattle.cml_work.specs.declared.fault.WorkFault.TheVariants.{Count, Memory, Start, Write, Foreign}

-- the lines of these reports, one report after another
abbrev pub texts_of : List PlainReport → List ℕ
texts_of reports = flat_map report_text reports

-- the lines of some reports were written, the last of them perhaps not whole
abbrev pub BreaksOff : Stream → Type 0
BreaksOff output = (reports : List PlainReport) × TakesStart output (texts_of reports)

-- how the writing of a text ends: it was written; or a write failed after a prefix of it
abbrev pub IsSentOut : {A E : Type 0} → List ℕ → Result A E → Stream → Type 0
IsSentOut text (Ok done) output = Takes output text
IsSentOut text (Err fault) output = TakesStart output text

-- how many writes have failed after that
abbrev pub failed_with : {A E : Type 0} → Result A E → ℕ → ℕ
failed_with (Ok done) failed = failed
failed_with (Err fault) failed = counted failed

-- what was written of the lines of a report: all; where memory ran out nothing; where a write failed a prefix
abbrev pub IsShownText : {A : Type 0} → List ℕ → Result A WatchFault → Stream → Type 0
IsShownText text (Ok done) output = Takes output text
IsShownText text (Err watch_fault.Memory) output = Takes output []
IsShownText text (Err watch_fault.Write) output = TakesStart output text

-- What a watcher wrote that saw these reports: their lines, all of them; or a prefix, where a write failed.
abbrev pub IsWatched : Stream → List PlainReport → Option WatchFault → Type 0
IsWatched output seen None = Takes output (texts_of seen)
IsWatched output seen (Some watch_fault.Memory) = Takes output (texts_of seen)
IsWatched output seen (Some watch_fault.Write) = TakesStart output (texts_of seen)

-- What was written where there is no hub that has run to its end with the reports that were seen: nothing where the number of workers is
-- not one there may be; those that were seen where they are not the hub's, which begin with them; where a write failed a prefix of the
-- lines of the hub's reports; else all of them.
abbrev pub FaultWrites : Stream → WorkFault → Type 0
FaultWrites output (Count hub) = Takes output []
FaultWrites output (Foreign hub seen) = Takes output (texts_of seen.items) × BeginsWith hub.reports seen.items
FaultWrites output (Write hub) = TakesStart output (texts_of hub.reports)
FaultWrites output (Memory hub) = Takes output (texts_of hub.reports)
FaultWrites output (Start hub) = Takes output (texts_of hub.reports)

-- how many writes have failed: one more at the fault of a write, and no more at any other result
abbrev pub failed_after : {A : Type 0} → Result A WatchFault → ℕ → ℕ
failed_after (Err watch_fault.Write) failed = counted failed
failed_after _ failed = failed

abbrev pub failed_watching : Option WatchFault → ℕ → ℕ
failed_watching (Some watch_fault.Write) failed = counted failed
failed_watching _ failed = failed

abbrev pub failed_at : WorkFault → ℕ → ℕ
failed_at (Write hub) failed = counted failed
failed_at _ failed = failed

abbrev pub failed_after_all : {A : Type 0} → Result A WorkFault → ℕ → ℕ
failed_after_all (Err (Write hub)) failed = counted failed
failed_after_all _ failed = failed
