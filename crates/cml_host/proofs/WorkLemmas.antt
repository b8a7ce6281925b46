-- How a hub was run: by one thread, or by workers.
use Rattle.std.proofs.Common.{◌≡◌, ◌∙◌, ap, ℕ, List, [], Option, Some, None, Result, Ok, Err, OnOk, OnErr, inl, refl, sym, subst}
use Rattle.std.proofs.KnownBytes.{Appends-nil}
use Rattle.cml_check.specs.Syntax.{PlainItem}
use Rattle.cml_hub.specs.Kept.{Kept, Continues, IsOver}
use Rattle.cml_hub.specs.Playing.{Rules, PlaysOut, PlaysSoFar}
use Rattle.cml_hub.specs.Runs.{Run}
use Rattle.cml_hub.specs.declared.fault.End.{End}
use Rattle.cml_schedule.specs.Reports.{PlainReport}
use Rattle.cml_schedule.specs.declared.item.Item.{Item}
use Rattle.cml_stream.specs.Counts.{counted}
use Rattle.cml_stream.specs.Streams.{stream, counted_stream, Takes}
use Rattle.cml_arguments.specs.declared.RunOptions.{RunOptions}
use Rattle.cml_work.specs.Seen.{FaultWrites, failed_after_all}
use Rattle.cml_work.specs.Works.{IsWorkerCount, GoesOnFrom, IsWorked, Works, WatchFails}
use Rattle.cml_work.specs.declared.fault.WorkFault.{WorkFault}
use Rattle.cml_work.specs.declared.fault.WorkFault.TheVariants as fault
use Rattle.cml_host.specs.Running.{ReportsAreLive, HasRun, AreToldBy, IsStopped, failed_by, hub_of, cause_of}
use Rattle.cml_host.specs.Told.{IsRunOf, reports_text}
use Rattle.cml_host.specs.declared.workers.Cause.{Cause}
use Rattle.cml_host.specs.declared.workers.Cause.TheVariants as cause
use Rattle.cml_host.specs.declared.workers.Stopped.{Stopped}

-- ---- by one thread

pub goes_on : (old new : Kept) → Continues old new → GoesOnFrom old new
goes_on old new more =
    record { program = more.program; budget = more.budget; watch = more.watch; more = more.more; items = more.items; exchanges = more.exchanges }

pub worked : (old new : Kept) (end : End) → Continues old new → IsOver end new → IsWorked old new
worked old new end more is_over =
    record { goes_on = goes_on old new more; over_is = is_over.over_is; none_out = is_over.none_out; none_due = is_over.none_due }

-- they were told, and memory had run out
pub all_told : (options : RunOptions) (old new : Kept) (a b : Option (List ℕ)) (calls failed : ℕ) → Continues old new →
    Takes (stream a b) (reports_text new.reports) → failed ≡ 0 →
    IsStopped options old (record { hub = new; cause = cause.Memory }) (counted_stream a b calls failed)
all_told options old new a b calls failed more told none = (goes_on old new more, told, none)

-- ---- by workers

pub ran_out : (hub : Kept) (workers : ℕ) (f : WorkFault) → IsWorkerCount workers → Works hub workers (Err f) →
    GoesOnFrom hub (hub_of f) × (cause_of f ≡ cause.Memory)
ran_out hub workers (fault.Count new) count works = absurd (works.0 count)
ran_out hub workers (fault.Memory new) count works = (works.1, refl)
ran_out hub workers (fault.Start new) count works = absurd works
ran_out hub workers (fault.Write new) count works = absurd works
ran_out hub workers (fault.Foreign new seen) count works = absurd works

-- where none is asked for there is no report
pub unwatched : (p : List (PlainItem ℕ)) (watch : Option ℕ) (items : List Item) (reports : List PlainReport) (r : Run) → watch ≡ None →
    IsRunOf p watch items reports r → reports ≡ []
unwatched p None items reports r none run = run.reported
unwatched p (Some k) items reports r none run = cc

-- the hub was stopped, without a report asked for
pub stopped_silent : (options : RunOptions) (hub : Kept) (stopped : Stopped) (a : Option (List ℕ)) (calls failed : ℕ) →
    GoesOnFrom hub stopped.hub → stopped.hub.reports ≡ [] → stopped.cause ≡ cause.Memory → failed ≡ 0 →
    IsStopped options hub stopped (counted_stream a a calls failed)
stopped_silent options hub stopped a calls failed more unreported is none = (
  more,
  subst (λ (why : Cause). AreToldBy options stopped.hub why (stream a a)) (sym is)
      (subst (λ (rs : List PlainReport). Takes (stream a a) (reports_text rs)) (sym unreported) (Appends-nil a)),
  subst (λ (why : Cause). failed ≡ failed_by why) (sym is) none,
)

pub run_silent : (hub new : Kept) (a : Option (List ℕ)) (calls failed : ℕ) → IsWorked hub new → new.reports ≡ [] → failed ≡ 0 →
    HasRun hub new (counted_stream a a calls failed)
run_silent hub new a calls failed works none good =
    (works, subst (λ (rs : List PlainReport). Takes (stream a a) (reports_text rs)) (sym none) (Appends-nil a), good)

-- what a fault beside a watcher says of the hub that it carries, and of what was written
live_fault : (A : Type 0) (options : RunOptions) (hub : Kept) (f : WorkFault) (a b : Option (List ℕ)) (was failed : ℕ) → ReportsAreLive options →
    IsWorkerCount options.workers → WatchFails hub options.workers f → FaultWrites (stream a b) f → was ≡ 0 → failed ≡ failed_after_all {A = A} (Err f) was →
    GoesOnFrom hub (hub_of f) × AreToldBy options (hub_of f) (cause_of f) (stream a b) × (failed ≡ failed_by (cause_of f))
live_fault A options hub (fault.Count new) a b was failed live count fails writes none is = absurd (fails.0 count)
live_fault A options hub (fault.Memory new) a b was failed live count fails writes none is = (fails.1, writes, is ∙ none)
live_fault A options hub (fault.Start new) a b was failed live count fails writes none is = (fails.1.0, writes, is ∙ none)
live_fault A options hub (fault.Write new) a b was failed live count fails writes none is = (fails.1, writes, is ∙ ap counted none)
live_fault A options hub (fault.Foreign new seen) a b was failed live count fails writes none is =
    (fails.1.0.goes_on, (live, (seen.items, fails.1.1, writes.1, writes.0)), is ∙ none)

-- the answer says only of which type it is
pub stopped_live : (A : Type 0) (answer : Result A WorkFault) (options : RunOptions) (hub : Kept) (f : WorkFault) (stopped : Stopped) (a b : Option (List ℕ)) (was calls failed : ℕ) →
    ReportsAreLive options → IsWorkerCount options.workers → WatchFails hub options.workers f → FaultWrites (stream a b) f → was ≡ 0 →
    failed ≡ failed_after_all {A = A} (Err f) was → stopped.hub ≡ hub_of f → stopped.cause ≡ cause_of f →
    IsStopped options hub stopped (counted_stream a b calls failed)
stopped_live A answer options hub f stopped a b was calls failed live count fails writes none is same_hub same_cause =
    let all = live_fault A options hub f a b was failed live count fails writes none is in
    subst (λ (h : Kept). GoesOnFrom hub h × AreToldBy options h stopped.cause (stream a b) × (failed ≡ failed_by stopped.cause)) (sym same_hub)
    (subst (λ (why : Cause). GoesOnFrom hub (hub_of f) × AreToldBy options (hub_of f) why (stream a b) × (failed ≡ failed_by why)) (sym same_cause) all)

-- a run that has come to its end has come so far
pub ended_so_far : {A E C : Type 0} (r : Result A E) (rules : Rules C) (h new : Kept) (c last : C) → OnOk r (PlaysOut rules h c new last) →
    OnErr r (PlaysSoFar rules h c new) → PlaysSoFar rules h c new
ended_so_far (Ok x) rules h new c last out so_far = inl (record { items = h.budget; last = last; plays = out })
ended_so_far (Err e) rules h new c last out so_far = so_far
