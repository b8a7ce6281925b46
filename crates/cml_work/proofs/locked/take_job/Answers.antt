use Rattle.std.proofs.Common.{refl}
use Rattle.std.proofs.lemmas.Result.{err_from_is_err_and}
use Rattle.cml_work.proofs.Going.{extends_same}
use Rattle.cml_work.proofs.Picking.{on_err, picks_none, some_on, up_to_on}
use Rattle.cml_work.proofs.locked.take_job.Goals as goal

pub returns-in_err-program-clause-takes : goal.returns-in_err-program-clause-takes
returns-in_err-program-clause-takes g c =
    let p = err_from_is_err_and c.from_residual.result c.from_residual.ensures.1 in
    rw p.1 (extends_same c.args.hub.now, refl)

pub returns-in_err-program-clause-some : goal.returns-in_err-program-clause-some
returns-in_err-program-clause-some g c = on_err c.from_residual.result (picks_none (record { picks = g.C.Chooser.picks; next = g.C.Chooser.next }) c.args.hub.now c.args.chooser.now)

pub returns-in-Ok-Job-clause-picks : goal.returns-in-Ok-Job-clause-picks
returns-in-Ok-Job-clause-picks g c =
    up_to_on (record { picks = g.C.Chooser.picks; next = g.C.Chooser.next }) c.args.hub.now c.take.new.self c.args.chooser.now c.take.new.chooser c.in-Ok-Job.field-0
    c.what_is_played_is_picked.ensures c.leads.ensures c.in-Ok-Job.ensures.plays

pub returns-in-Ok-Wait-clause-picks : goal.returns-in-Ok-Wait-clause-picks
returns-in-Ok-Wait-clause-picks g c =
    up_to_on (record { picks = g.C.Chooser.picks; next = g.C.Chooser.next }) c.args.hub.now c.take.new.self c.args.chooser.now c.take.new.chooser c.in-Ok-Wait.field-0
    c.what_is_played_is_picked.ensures c.leads.ensures c.in-Ok-Wait.ensures.plays

pub returns-in-Ok-Ended-clause-picks : goal.returns-in-Ok-Ended-clause-picks
returns-in-Ok-Ended-clause-picks g c =
    up_to_on (record { picks = g.C.Chooser.picks; next = g.C.Chooser.next }) c.args.hub.now c.take.new.self c.args.chooser.now c.take.new.chooser c.in-Ok-Ended.field-0
    c.what_is_played_is_picked.ensures c.leads.ensures c.in-Ok-Ended.ensures.plays

pub returns-in-Err-clause-some : goal.returns-in-Err-clause-some
returns-in-Err-clause-some g c =
    some_on (record { picks = g.C.Chooser.picks; next = g.C.Chooser.next }) c.args.hub.now c.take.new.self c.args.chooser.now c.what_is_played_is_picked.ensures c.leads.ensures c.in-Err.ensures.so_far
