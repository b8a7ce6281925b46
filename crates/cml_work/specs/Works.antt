-- How runs of workers end.
use Rattle.std.specs.Prelude.{ℕ, ◌≡◌, ◌≢◌, ◌≤◌, Bool, true, false, List, ◌++◌, Option, Result, Ok, Err}
use Rattle.cml_check.specs.Syntax.{PlainItem}
use Rattle.cml_schedule.specs.Reports.{PlainReport}
use Rattle.cml_schedule.specs.declared.item.Item.{Item}
use Rattle.cml_hub.specs.Courses.{run_of}
use Rattle.cml_hub.specs.Dones.{GoesOn}
use Rattle.cml_hub.specs.Runs.{over}
use Rattle.cml_hub.specs.Kept.{Kept, NoneOut, NoneDue, SwapsAreExchanges}
use Rattle.cml_work.specs.declared.locked.Found.{Found}
use Rattle.cml_work.specs.declared.locked.Found.TheVariants as found
use Rattle.cml_work.specs.declared.fault.WorkFault.{WorkFault}
use Rattle.cml_work.specs.declared.fault.WorkFault.TheVariants.{Count, Memory, Start, Write, Foreign}

-- a number of workers that is allowed
abbrev pub IsWorkerCount : ℕ → Type 0
IsWorkerCount workers = (1 ≤ workers) × (workers ≤ 64)

-- what of a hub stays to the end of a run that begins with it: its program, budget and watch; and its schedule, which grows
pub record PlainOpening : Type 0 where
  pub program : List (PlainItem ℕ)
  pub budget : ℕ
  pub watch : Option ℕ
  pub items : List Item

abbrev pub opening_of : Kept → PlainOpening
opening_of h = record { program = h.course.program; budget = h.budget; watch = h.watch; items = h.course.items }

-- The hub is of this program, budget and watch, and its schedule begins with this one. After that a row of two swaps was taken as an
-- exchange, and by no other item.
pub record OpenedBy (opening : PlainOpening) (h : Kept) : Type 0 where
  pub program : h.course.program ≡ opening.program
  pub budget : h.budget ≡ opening.budget
  pub watch : h.watch ≡ opening.watch
  pub more : List Item
  pub items : h.course.items ≡ opening.items ++ more
  pub exchanges : SwapsAreExchanges opening.program opening.items more

-- The hub goes on from the other. (That its schedule leads to where it stands, and that its reports are those of its schedule, holds of
-- every hub.)
abbrev pub GoesOnFrom : Kept → Kept → Type 0
GoesOnFrom old new = OpenedBy (opening_of old) new

-- it goes on from the other, and has run to its end: nothing is left to do, or the budget is used
pub record IsWorked (old new : Kept) : Type 0 where
  pub goes_on : GoesOnFrom old new
  pub over_is : over new.budget (run_of new.course) ≡ true
  pub none_out : NoneOut new
  pub none_due : NoneDue new

-- What `run_workers` returns: a hub that has gone on to its end; or it was asked for another number of workers, and the hub comes back; or
-- memory ran out, and the hub has gone on so far.
abbrev pub Works : Kept → ℕ → Result Kept WorkFault → Type 0
Works hub workers (Ok new) = IsWorkerCount workers × IsWorked hub new
Works hub workers (Err (Count new)) = (IsWorkerCount workers → ⊥) × (new ≡ hub)
Works hub workers (Err (Memory new)) = IsWorkerCount workers × GoesOnFrom hub new
Works hub workers (Err (Start new)) = ⊥
Works hub workers (Err (Write new)) = ⊥
Works hub workers (Err (Foreign new seen)) = ⊥

-- Why a run with a watcher breaks off: memory ran out, or a write failed, and the hub has gone on so far;
-- or no thread could be started, and the schedule is as it was; or the hub has gone on to its end, but the reports that were seen are not
-- the hub's.
abbrev pub WatchBreaks : Kept → WorkFault → Type 0
WatchBreaks hub (Count new) = ⊥
WatchBreaks hub (Memory new) = GoesOnFrom hub new
WatchBreaks hub (Start new) = GoesOnFrom hub new × (new.course.items ≡ hub.course.items)
WatchBreaks hub (Write new) = GoesOnFrom hub new
WatchBreaks hub (Foreign new seen) = IsWorked hub new × (seen.items ≢ new.reports)

-- Why `run_watched` fails: the number of workers is not allowed, and the hub comes back; or the run broke off.
abbrev pub WatchFails : Kept → ℕ → WorkFault → Type 0
WatchFails hub workers (Count new) = (IsWorkerCount workers → ⊥) × (new ≡ hub)
WatchFails hub workers fault = IsWorkerCount workers × WatchBreaks hub fault

-- what is found under the lock, if it is a job, is one of a thread of this program that can go on
abbrev pub IsJob : List (PlainItem ℕ) → Found → Type 0
IsJob program (found.Job j) = (j.0 ≡ program) × GoesOn j.0 j.1
IsJob program _ = Unit {0}

-- the hub was compared with the reports that were seen, which are not its own; the fault hands over both
abbrev pub IsForeignFault : Kept → List PlainReport → WorkFault → Type 0
IsForeignFault hub reports (Foreign new seen) = (new ≡ hub) × (seen.items ≡ reports) × (reports ≢ hub.reports)
IsForeignFault hub reports _ = ⊥

-- Why no hub that has run to its end comes of what the workers left and the reports that were seen: memory ran out, or a write failed, and
-- the hub has gone on so far; or the reports are not the hub's.
abbrev pub IsLeft : Kept → List PlainReport → WorkFault → Type 0
IsLeft hub reports (Memory new) = GoesOnFrom hub new
IsLeft hub reports (Write new) = GoesOnFrom hub new
IsLeft hub reports (Foreign new seen) = IsWorked hub new × (seen.items ≡ reports) × (reports ≢ new.reports)
IsLeft hub reports _ = ⊥

-- why this hub is not run to its end: memory ran out; nothing has begun; or a write failed
abbrev pub IsCut : Kept → Bool → WorkFault → Type 0
IsCut hub is_still (Memory new) = (new ≡ hub) × (is_still ≡ false)
IsCut hub is_still (Start new) = (new ≡ hub) × (is_still ≡ true)
IsCut hub is_still (Write new) = new ≡ hub
IsCut hub is_still _ = ⊥

-- The same of a run with a watcher that the workers have left: memory ran out, or a write failed, and the hub has gone on so far; nothing
-- has begun; or the hub has gone on to its end, but the reports that were seen are not the hub's.
abbrev pub BreaksAfter : Kept → Bool → WorkFault → Type 0
BreaksAfter hub is_still (Count new) = ⊥
BreaksAfter hub is_still (Memory new) = GoesOnFrom hub new
BreaksAfter hub is_still (Start new) = (new ≡ hub) × (is_still ≡ true)
BreaksAfter hub is_still (Write new) = GoesOnFrom hub new
BreaksAfter hub is_still (Foreign new seen) = IsWorked hub new × (seen.items ≢ new.reports)
