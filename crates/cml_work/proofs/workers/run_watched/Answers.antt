use Rattle.std.proofs.Common.{rules, List, ◌++◌, ap, sym, subst, false}
use Rattle.cml_hub.specs.Kept.{Kept}
use Rattle.cml_work.specs.Picks.{PicksRows}
use Rattle.cml_work.proofs.Picking.{picks_none, rows_of, cut_hub}
use Rattle.std.proofs.lemmas.Result.{IfErr-weaker}
use Rattle.cml_schedule.specs.Reports.{PlainReport}
use Rattle.cml_work.specs.Works.{IsWorkerCount}
use Rattle.cml_work.proofs.Leaving.{cut_fails, breaks_fail}
use Rattle.cml_work.proofs.Writing.{none_seen}
use Rattle.cml_work.proofs.workers.run_watched.Goals as goal

pub out_of_memory-requires : goal.out_of_memory-requires
out_of_memory-requires g c =
    (c.args.hub.reports, sym (ap (λ (l : List PlainReport). l ++ c.args.hub.reports) c.new.ensures.items))

pub returns-in_default-clause-fails : goal.returns-in_default-clause-fails
returns-in_default-clause-fails g c =
    let count : IsWorkerCount c.args.workers = search rules in
    cut_fails c.args.hub c.args.workers c.out_of_memory.result count c.out_of_memory.ensures.cut_off

pub returns-in_default-clause-written_err : goal.returns-in_default-clause-written_err
returns-in_default-clause-written_err g c =
    c.out_of_memory.ensures.written _ (none_seen (g.W.Write.contents c.args.writer.now.stream.now) c.new.result.items c.new.ensures.items)

pub returns-clause-fails : goal.returns-clause-fails
returns-clause-fails g c =
    let count : IsWorkerCount c.args.workers = search rules in
    IfErr-weaker c.watch_over.result _ _ (λ fault h. breaks_fail c.args.hub c.args.workers fault count h) c.watch_over.ensures.fails

pub returns-then-not-is_count-clause-picks : goal.returns-then-not-is_count-clause-picks
returns-then-not-is_count-clause-picks g c = (picks_none (record { picks = g.C.Chooser.picks; next = g.C.Chooser.next }) c.args.hub c.args.chooser).picks.rows

pub returns-in_default-clause-picks : goal.returns-in_default-clause-picks
returns-in_default-clause-picks g c =
    subst (λ (x : Kept). PicksRows (record { picks = g.C.Chooser.picks; next = g.C.Chooser.next }) c.args.chooser c.args.hub x)
    (sym (cut_hub c.args.hub false c.out_of_memory.result c.out_of_memory.ensures.cut_off))
    (picks_none (record { picks = g.C.Chooser.picks; next = g.C.Chooser.next }) c.args.hub c.args.chooser).picks.rows

pub returns-clause-picks : goal.returns-clause-picks
returns-clause-picks g c = rows_of (record { picks = g.C.Chooser.picks; next = g.C.Chooser.next }) c.args.chooser c.args.hub _ c.watch_over.ensures.chosen
