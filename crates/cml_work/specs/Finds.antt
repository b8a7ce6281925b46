-- What is found under the lock.
use Rattle.std.specs.Prelude.{◌≡◌, ◌⊎◌, ℕ, ◌≤◌, Bool, true, false, length, Some, Result, Ok, Err, slice_get}
use Rattle.cml_hub.specs.Courses.{run_of}
use Rattle.cml_hub.specs.Runs.{over}
use Rattle.cml_hub.specs.Kept.{Kept, Continues, Extends, HandsOut, NoneDue, NoneOut}
use Rattle.cml_hub.specs.declared.fault.Next.TheVariants as next
use Rattle.cml_work.specs.Held.{Held}
use Rattle.cml_work.specs.declared.locked.Found.{Found}
use Rattle.cml_work.specs.declared.locked.Found.TheVariants as found
use Rattle.cml_work.specs.declared.locked.Told.{Told}
use Rattle.cml_work.specs.declared.locked.Told.TheVariants as told

-- the run of the hub is over: nothing is left to do, or the budget is used
abbrev pub is_over : Kept → Bool
is_over h = over h.budget (run_of h.course)

-- What the hub's `take` answered: the job that it handed out, with the hub's program; to wait; or nothing more, exactly where the run is
-- over.
abbrev pub TakesJob : Kept → Found → Kept → Type 0
TakesJob old (found.Job j) new = (j.0 ≡ old.course.program) × HandsOut old (next.Job j.1) new × (is_over new ≡ false)
TakesJob old found.Wait new = HandsOut old next.Wait new × (is_over new ≡ false)
TakesJob old found.Over new = HandsOut old next.Ended new × (is_over new ≡ true)

-- the hub's `take` was called once; or memory ran out before it, or in it
abbrev pub TakesOnce : {E : Type 0} → Kept → Result Found E → Kept → Type 0
TakesOnce old (Ok f) new = Extends old new × TakesJob old f new × NoneDue new
TakesOnce old (Err e) new = Extends old new × (new.out ≡ old.out)

-- a worker is to wait, without a look at whether the hub has a job: a slice is out, and nothing has changed
abbrev pub RestsBeside : {E : Type 0} → Kept → Result Found E → Kept → Type 0
RestsBeside old r new = (r ≡ Ok found.Wait) × (new ≡ old) × (NoneOut old → ⊥)

-- turns were run in place where no slice was out, and none is
abbrev pub RunsHere : Kept → Kept → Type 0
RunsHere old new = NoneOut old × Continues old new × NoneOut new

abbrev pub RunsHereOrNot : Kept → Kept → Type 0
RunsHereOrNot old new = (new ≡ old) ⊎ RunsHere old new

-- It is to wait so; or the hub's `take` was called once, and before it turns may have been run in place. (Where memory ran out for these,
-- it was not called.)
abbrev pub LooksOnce : {E : Type 0} → Kept → Result Found E → Kept → Type 0
LooksOnce old r new = RestsBeside old r new ⊎ ((mid : Kept) × RunsHereOrNot old mid × TakesOnce mid r new)

-- where the workers are to stop nothing is handed out, and nothing changes
abbrev pub FindsNothing : {E : Type 0} → Kept → Result Found E → Kept → Type 0
FindsNothing old r new = (r ≡ Ok found.Over) × (new ≡ old)

-- whether the workers are to stop, whether they all have ended, and of how many reports the watcher was told, is as before
abbrev pub HaveOneState : Held → Held → Type 0
HaveOneState old new = (new.is_stopped ≡ old.is_stopped) × (new.is_done ≡ old.is_done) × (new.told ≡ old.told)

-- the workers are to stop; the rest is as before
abbrev pub IsStoppedAt : Held → Held → Type 0
IsStoppedAt old new = (new.is_stopped ≡ true) × (new.is_done ≡ old.is_done) × (new.told ≡ old.told)

-- What the watcher is told of the report of this number: the hub's own; or that the hub has none of that number, and whether the workers
-- have ended.
abbrev pub TellsReport : Held → ℕ → Told → Type 0
TellsReport held n (told.Report r) = slice_get held.hub.reports n ≡ Some r
TellsReport held n told.Wait = (length held.hub.reports ≤ n) × (held.is_done ≡ false)
TellsReport held n told.Over = (length held.hub.reports ≤ n) × (held.is_done ≡ true)
