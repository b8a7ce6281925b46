use Rattle.std.proofs.Common.{true, false, true≢false, sym, subst}
use Rattle.cml_hub.specs.Kept.{Kept}
use Rattle.cml_work.proofs.Leaving.{cut_after}
use Rattle.cml_work.proofs.Writing.{starts_more, watched_broke}
use Rattle.cml_work.specs.Picks.{TakenBy}
use Rattle.cml_work.proofs.Picking.{cut_hub}
use Rattle.cml_work.proofs.ending.finished.Goals as goal

pub returns-in-Some-Write-clause-written_err : goal.returns-in-Some-Write-clause-written_err
returns-in-Some-Write-clause-written_err g c = λ start took.
    starts_more _ c.args.hub.reports c.args.seen.items c.requires
    (watched_broke _ c.args.seen.items c.args.fault c.in-Some-Write.field-0 c.in-Some-Write.is
    (rw c.in-Some-Write.is at c.in-Some-Write.field-0-is) took)

pub returns-in-Some-Memory-clause-fails : goal.returns-in-Some-Memory-clause-fails
returns-in-Some-Memory-clause-fails g c =
    cut_after c.args.hub _ c.args.is_still c.out_of_memory.result (λ e. absurd (true≢false (sym e))) c.out_of_memory.ensures.cut_off

pub returns-in-Some-Write-clause-chosen : goal.returns-in-Some-Write-clause-chosen
returns-in-Some-Write-clause-chosen g c = λ o picks h. h.taken

pub returns-in-Some-Memory-clause-chosen : goal.returns-in-Some-Memory-clause-chosen
returns-in-Some-Memory-clause-chosen g c = λ o picks h.
    subst (λ (x : Kept). TakenBy o picks x) (sym (cut_hub c.args.hub false c.out_of_memory.result c.out_of_memory.ensures.cut_off)) h.taken

pub returns-then-is_still-clause-chosen : goal.returns-then-is_still-clause-chosen
returns-then-is_still-clause-chosen g c = λ o picks h.
    subst (λ (x : Kept). TakenBy o picks x) (sym (cut_hub c.args.hub true c.cut_off.result c.cut_off.ensures.cut_off)) h.taken
