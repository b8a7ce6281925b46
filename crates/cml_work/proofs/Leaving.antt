-- How runs end that do not come to their end.
use Rattle.std.proofs.Common.{◌≡◌, ℕ, List, Bool, true, false, true≢false, length, sym, ap, subst, ◌∙◌}
use Rattle.cml_schedule.specs.Reports.{PlainReport}
use Rattle.cml_hub.specs.Kept.{Kept}
use Rattle.cml_stream.specs.Streams.{Stream, Takes}
use Rattle.cml_work.specs.Marks.{BeginsWith}
use Rattle.cml_work.specs.Seen.{texts_of, FaultWrites}
use Rattle.cml_work.specs.Works.{IsWorkerCount, PlainOpening, opening_of, OpenedBy, GoesOnFrom, IsForeignFault, IsLeft, IsCut, BreaksAfter, WatchBreaks, WatchFails}
use Rattle.cml_work.specs.declared.fault.WorkFault.{WorkFault}
use Rattle.cml_work.specs.declared.fault.WorkFault.TheVariants.{Count, Memory, Start, Write, Foreign}
use Rattle.cml_work.proofs.Going.{goes_on_same, went, went_after, worked_after, nothing_more}

pub after_breaks : (o : PlainOpening) (hub mid : Kept) (is_still : Bool) (fault : WorkFault) → opening_of hub ≡ o → OpenedBy o mid
    → (is_still ≡ true → length mid.course.items ≡ length hub.course.items) → BreaksAfter mid is_still fault → WatchBreaks hub fault
after_breaks o hub mid is_still (Count new) is follows same h = absurd h
after_breaks o hub mid is_still (Memory new) is follows same h = went_after o hub mid new is follows h
after_breaks o hub mid is_still (Start new) is follows same h =
    subst (λ (k : Kept). GoesOnFrom hub k × (k.course.items ≡ hub.course.items)) (sym h.0)
    (went o hub mid is follows, nothing_more o hub mid is follows (same h.1))
after_breaks o hub mid is_still (Write new) is follows same h = went_after o hub mid new is follows h
after_breaks o hub mid is_still (Foreign new seen) is follows same h = (worked_after o hub mid new is follows h.0, h.1)

-- the hub that the fault carries goes on from itself
pub cut_after : (hub : Kept) (cut is_still : Bool) (fault : WorkFault) → (cut ≡ true → is_still ≡ true) → IsCut hub cut fault → BreaksAfter hub is_still fault
cut_after hub cut is_still (Count new) still h = absurd h
cut_after hub cut is_still (Memory new) still h = subst (λ (k : Kept). GoesOnFrom hub k) (sym h.0) (goes_on_same hub)
cut_after hub cut is_still (Start new) still h = (h.0, still h.1)
cut_after hub cut is_still (Write new) still h = subst (λ (k : Kept). GoesOnFrom hub k) (sym h) (goes_on_same hub)
cut_after hub cut is_still (Foreign new seen) still h = absurd h

pub left_after : (hub : Kept) (reports : List PlainReport) (is_still : Bool) (fault : WorkFault) → IsLeft hub reports fault → BreaksAfter hub is_still fault
left_after hub reports is_still (Count new) h = absurd h
left_after hub reports is_still (Memory new) h = h
left_after hub reports is_still (Start new) h = absurd h
left_after hub reports is_still (Write new) h = h
left_after hub reports is_still (Foreign new seen) (worked, are, differ) = (worked, λ e. differ (sym are ∙ e))

pub cut_left : (hub mid : Kept) (reports : List PlainReport) (fault : WorkFault) → GoesOnFrom hub mid → IsCut mid false fault → IsLeft hub reports fault
cut_left hub mid reports (Count new) goes h = absurd h
cut_left hub mid reports (Memory new) goes h = subst (λ (k : Kept). GoesOnFrom hub k) (sym h.0) goes
cut_left hub mid reports (Start new) goes h = absurd (true≢false (sym h.1))
cut_left hub mid reports (Write new) goes h = subst (λ (k : Kept). GoesOnFrom hub k) (sym h) goes
cut_left hub mid reports (Foreign new seen) goes h = absurd h

-- the reports that were seen were written, with which those of the hub begin
pub foreign_writes : (output : Stream) (hub : Kept) (reports : List PlainReport) (fault : WorkFault) → BeginsWith hub.reports reports → Takes output (texts_of reports)
    → IsForeignFault hub reports fault → FaultWrites output fault
foreign_writes output hub reports (Count new) begins took h = absurd h
foreign_writes output hub reports (Memory new) begins took h = absurd h
foreign_writes output hub reports (Start new) begins took h = absurd h
foreign_writes output hub reports (Write new) begins took h = absurd h
foreign_writes output hub reports (Foreign new seen) begins took h = (
  subst (λ (l : List PlainReport). Takes output (texts_of l)) (sym h.1) took,
  subst (λ (x : List PlainReport × List PlainReport). BeginsWith x.0 x.1) (λ i. (sym (ap (λ (k : Kept). k.reports) h.0) i, sym h.1 i)) begins,
)

-- a run that broke off fails
pub breaks_fail : (hub : Kept) (workers : ℕ) (fault : WorkFault) → IsWorkerCount workers → WatchBreaks hub fault → WatchFails hub workers fault
breaks_fail hub workers (Count new) count h = absurd h
breaks_fail hub workers (Memory new) count h = (count, h)
breaks_fail hub workers (Start new) count h = (count, h)
breaks_fail hub workers (Write new) count h = (count, h)
breaks_fail hub workers (Foreign new seen) count h = (count, h)

-- the hub that was handed in was not run at all
pub cut_fails : (hub : Kept) (workers : ℕ) (fault : WorkFault) → IsWorkerCount workers → IsCut hub false fault → WatchFails hub workers fault
cut_fails hub workers (Count new) count h = absurd h
cut_fails hub workers (Memory new) count h = (count, subst (λ (k : Kept). GoesOnFrom hub k) (sym h.0) (goes_on_same hub))
cut_fails hub workers (Start new) count h = absurd (true≢false (sym h.1))
cut_fails hub workers (Write new) count h = (count, subst (λ (k : Kept). GoesOnFrom hub k) (sym h) (goes_on_same hub))
cut_fails hub workers (Foreign new seen) count h = absurd h
