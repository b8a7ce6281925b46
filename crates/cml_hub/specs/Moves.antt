-- How the parts of a hub change what it keeps.
use Rattle.std.specs.Prelude.{ℕ, ◌≡◌, ◌≢◌, ◌<◌, Bool, true, false, not, List, [], ◌∷◌, ◌++◌, length, Option, Some, None, slice_get, slice_set}
use Rattle.cml_scan.specs.Scan.{scan}
use Rattle.cml_scan.specs.declared.meet.Meet.{Meet}
use Rattle.cml_scan.specs.declared.meet.Meet.TheVariants.{Single, Pair}
use Rattle.cml_schedule.specs.Reports.{PlainReport}
use Rattle.cml_schedule.specs.declared.item.Item.{Item}
use Rattle.cml_step.specs.Machines.{PlainMachine}
use Rattle.cml_value.specs.declared.number.Tid.{Tid}
use Rattle.cml_hub.specs.declared.done.AfterTurn.{AfterTurn}
use Rattle.cml_hub.specs.declared.done.AfterTurn.TheVariants as gone_of
use Rattle.cml_hub.specs.declared.ready_queue.Mark.{Mark}
use Rattle.cml_hub.specs.declared.ready_queue.Mark.TheVariants as mark
use Rattle.cml_hub.specs.ReadyQueue.{left_by, those_out}
use Rattle.cml_hub.specs.Runs.{any_runs, terminal}
use Rattle.cml_hub.specs.Dones.{GoesOn}
use Rattle.cml_hub.specs.Courses.{Adds, HasMachine}
use Rattle.cml_hub.specs.Kept.{Kept, AllOut, NoneOut, NoneDue, IsNoTurn, TellsSwaps, is_out_of}

-- the thread that begins, if one does, has the next number
abbrev pub IsNext : AfterTurn → List Mark → Type 0
IsNext (gone_of.With child) ms = child.0 ≡ length ms
IsNext g ms = Unit {0}

-- where the threads are after a turn of the thread t
abbrev pub marks_after : ℕ → AfterTurn → List Mark → List Mark
marks_after t gone_of.On ms = slice_set ms t mark.Ready
marks_after t (gone_of.With child) ms = slice_set ms t mark.Ready ++ mark.Ready ∷ []
marks_after t gone_of.Off ms = slice_set ms t mark.NotRunning

-- who is ready after a turn of the thread and comes last in the queue
abbrev pub lines_up : Tid → AfterTurn → List Tid
lines_up t gone_of.On = t ∷ []
lines_up t (gone_of.With child) = child ∷ t ∷ []
lines_up t gone_of.Off = []

-- the parties of a row do not run; those of a pair are two different threads
abbrev pub PartiesAway : List Mark → Meet → Type 0
PartiesAway ms (Single t n) = slice_get ms t.0 ≡ Some mark.NotRunning
PartiesAway ms (Pair h i o j) = (slice_get ms h.0 ≡ Some mark.NotRunning) × (slice_get ms o.0 ≡ Some mark.NotRunning) × (h.0 ≢ o.0)

-- where the threads are after a row
abbrev pub marks_met : Meet → List Mark → List Mark
marks_met (Single t n) ms = slice_set ms t.0 mark.Ready
marks_met (Pair h i o j) ms = slice_set (slice_set ms h.0 mark.Ready) o.0 mark.Ready

-- one item more, and no report yet
pub record AddsItem (old : Kept) (item : Item) (new : Kept) : Type 0 where
  pub adds : Adds old.course item new.course
  pub budget : new.budget ≡ old.budget
  pub watch : new.watch ≡ old.watch
  pub reports : new.reports ≡ old.reports
  pub used : old.course.used < new.course.used

-- no slice of the thread is out; whether one of another thread is, is as before
pub record TakesBack (old : List Bool) (t : ℕ) (new : List Bool) : Type 0 where
  pub back : is_out_of new t ≡ false
  pub others : (u : ℕ) → u ≢ t → is_out_of new u ≡ is_out_of old u

-- the report that was due was made, and none is due now
pub record Reported (old new : Kept) : Type 0 where
  pub course : new.course ≡ old.course
  pub budget : new.budget ≡ old.budget
  pub watch : new.watch ≡ old.watch
  pub out : new.out ≡ old.out
  pub queue : new.queue ≡ old.queue
  pub made : List PlainReport
  pub reports : new.reports ≡ old.reports ++ made
  pub none_due : NoneDue new

-- the machine of a running thread was handed out; or no thread was ready
abbrev pub HandedOut : Kept → Option PlainMachine → Kept → Type 0
HandedOut old None new = AllOut old × (new ≡ old)
HandedOut old (Some m) new =
    HasMachine old.course m.thread m × GoesOn old.course.program m × (is_out_of old.out m.thread ≡ false)
    × (new ≡ record old { out = slice_set old.out m.thread true; queue = left_by m.thread old.queue })

-- the thread of the machine was ready first; or none was ready
abbrev pub LeavesFirst : List Tid → Option PlainMachine → List Tid → Type 0
LeavesFirst old None new = None ≡ slice_get old 0
LeavesFirst old (Some m) new = old ≡ record { 0 = m.thread } ∷ new

-- A row was taken, as an exchange where it is of two swaps, or the time moved; or no row can be taken, and nothing is left to do exactly where
-- no thread runs.
abbrev pub MovedOn : Kept → Bool → Kept → Type 0
MovedOn old true new =
    (item : Item) × IsNoTurn item × TellsSwaps old.course.world item × AddsItem old item new × (new.out ≡ old.out)
    × (terminal old.course.world ≡ false)
MovedOn old false new = (scan old.course.world ≡ []) × (terminal old.course.world ≡ not (any_runs old.course.world)) × (new ≡ old)

-- No slice is out any more: the threads of those that were are ready, after the others. All else is as before.
pub record CalledBack (old new : Kept) : Type 0 where
  pub course : new.course ≡ old.course
  pub budget : new.budget ≡ old.budget
  pub watch : new.watch ≡ old.watch
  pub reports : new.reports ≡ old.reports
  pub queue : new.queue ≡ old.queue ++ those_out 0 old.out
  pub none_out : NoneOut new

-- The item happened, and the report that was due after it was made: none is due now, and no slice is out.
pub record Happens (old : Kept) (item : Item) (new : Kept) : Type 0 where
  pub adds : Adds old.course item new.course
  pub budget : new.budget ≡ old.budget
  pub watch : new.watch ≡ old.watch
  pub none_due : NoneDue new
  pub none_out : NoneOut new

-- one item more, which is an exchange where it takes a row of two swaps; and no slice is out
pub record GoesAlone (old new : Kept) : Type 0 where
  pub item : Item
  pub tells : TellsSwaps old.course.world item
  pub moves : AddsItem old item new
  pub none_out : NoneOut new

-- the same, where anything was left to do
abbrev pub GoesIfLeft : Kept → Bool → Kept → Type 0
GoesIfLeft old true new = (terminal old.course.world ≡ false) × GoesAlone old new
GoesIfLeft old false new = (terminal old.course.world ≡ true) × (new ≡ old)

-- the reports with this one after them, if there is one
abbrev pub with_report : List PlainReport → Option PlainReport → List PlainReport
with_report reports None = reports
with_report reports (Some r) = reports ++ r ∷ []
