use Rattle.std.proofs.Common.{rules, subst}
use Rattle.cml_work.specs.Picks.{TakenBy, hub_of_end, picker}
use Rattle.cml_work.specs.Works.{opening_of}
use Rattle.cml_work.proofs.Going.{goes_on_same}
use Rattle.cml_work.proofs.Picking.{picks_none, rows_of}
use Rattle.cml_work.proofs.workers.run_workers.Goals as goal

pub returns-then-not-is_count-clause-picks : goal.returns-then-not-is_count-clause-picks
returns-then-not-is_count-clause-picks g c = (picks_none (record { picks = g.C.Chooser.picks; next = g.C.Chooser.next }) c.args.hub c.args.chooser).picks.rows

pub returns-in_default-clause-works : goal.returns-in_default-clause-works
returns-in_default-clause-works g c = (search rules, goes_on_same c.args.hub)

pub returns-in_default-clause-picks : goal.returns-in_default-clause-picks
returns-in_default-clause-picks g c = (picks_none (record { picks = g.C.Chooser.picks; next = g.C.Chooser.next }) c.args.hub c.args.chooser).picks.rows

pub returns-in-Ok-run_over-clause-picks : goal.returns-in-Ok-run_over-clause-picks
returns-in-Ok-run_over-clause-picks g c =
    rows_of (record { picks = g.C.Chooser.picks; next = g.C.Chooser.next }) c.args.chooser c.args.hub _
    (subst (λ r. TakenBy (opening_of c.args.hub) (picker (record { picks = g.C.Chooser.picks; next = g.C.Chooser.next }) c.args.chooser) (hub_of_end r))
    c.in-Ok-run_over.is c.run_over.ensures.chosen)

pub returns-in-Err-clause-picks : goal.returns-in-Err-clause-picks
returns-in-Err-clause-picks g c =
    rows_of (record { picks = g.C.Chooser.picks; next = g.C.Chooser.next }) c.args.chooser c.args.hub _
    (subst (λ r. TakenBy (opening_of c.args.hub) (picker (record { picks = g.C.Chooser.picks; next = g.C.Chooser.next }) c.args.chooser) (hub_of_end r))
    c.in-Err.is c.run_over.ensures.chosen)
