use Rattle.std.proofs.Common.{[], sym, append-nil}
use Rattle.cml_work.proofs.Going.{goes_on_same, goes_on_continues, reports_continue, worked_over}
use Rattle.cml_work.proofs.Picking.{ended_taken, out_rows, so_far_rows}
use Rattle.cml_work.proofs.ending.end_alone.Goals as goal

pub returns-then-is_stopped-clause-err : goal.returns-then-is_stopped-clause-err
returns-then-is_stopped-clause-err g c = (goes_on_same c.args.hub, ([], sym (append-nil _)))

pub returns-in-Ok-clause-ok : goal.returns-in-Ok-clause-ok
returns-in-Ok-clause-ok g c = (worked_over _ _ _ c.run_alone.ensures.more c.in-Ok.ensures.ok, reports_continue _ _ c.run_alone.ensures.more)

pub returns-clause-err : goal.returns-clause-err
returns-clause-err g c = (goes_on_continues _ _ c.run_alone.ensures.more, reports_continue _ _ c.run_alone.ensures.more)

pub returns-then-is_stopped-clause-chosen : goal.returns-then-is_stopped-clause-chosen
returns-then-is_stopped-clause-chosen g c = λ o picks h. h.taken

pub returns-in-Ok-clause-chosen : goal.returns-in-Ok-clause-chosen
returns-in-Ok-clause-chosen g c = λ o picks h.
    ended_taken (record { picks = g.C.Chooser.picks; next = g.C.Chooser.next }) c.args.chooser o picks c.args.is_stopped c.args.hub c.run_alone.new.self h c.if-is_stopped.false
    c.run_alone.ensures.more.program
    (out_rows (record { picks = g.C.Chooser.picks; next = g.C.Chooser.next }) c.args.hub c.run_alone.new.self c.args.chooser c.run_alone.new.chooser
    c.what_is_played_is_picked.ensures c.leads.ensures c.in-Ok.ensures.plays)

pub returns-clause-chosen : goal.returns-clause-chosen
returns-clause-chosen g c = λ o picks h.
    ended_taken (record { picks = g.C.Chooser.picks; next = g.C.Chooser.next }) c.args.chooser o picks c.args.is_stopped c.args.hub c.run_alone.new.self h c.if-is_stopped.false
    c.run_alone.ensures.more.program
    (so_far_rows (record { picks = g.C.Chooser.picks; next = g.C.Chooser.next }) c.args.hub c.run_alone.new.self c.args.chooser c.what_is_played_is_picked.ensures
    c.leads.ensures c.in-Err.ensures.so_far)
