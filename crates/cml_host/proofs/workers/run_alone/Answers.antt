use Rattle.std.proofs.Common.{List, subst}
use Rattle.cml_schedule.specs.Reports.{PlainReport}
use Rattle.cml_stream.specs.Streams.{stream, Takes}
use Rattle.cml_host.specs.Told.{reports_text}
use Rattle.cml_host.proofs.WorkLemmas.{all_told, ended_so_far}
use Rattle.cml_host.proofs.workers.run_alone.Goals as goal

pub returns-clause-err : goal.returns-clause-err
returns-clause-err g c =
    let a = g.E.Write.contents c.args.err.now.stream.now in
    let b = g.E.Write.contents c.send_reports.new.err.stream.now in
    all_told c.args.options.now c.args.hub c.run_alone-ended.new.self a b c.send_reports.new.err.calls c.send_reports.new.err.failed
    c.run_alone-ended.ensures.more
    (subst (λ (rs : List PlainReport). Takes (stream a b) (reports_text rs)) c.reports.ensures.reports c.in-Ok.ensures.sent.0) c.in-Ok.ensures.sent.1

pub returns-in-Err-clause-so_far : goal.returns-in-Err-clause-so_far
returns-in-Err-clause-so_far g c =
    ended_so_far c.run_alone-ended.result (record { picks = g.C.Chooser.picks; next = g.C.Chooser.next }) c.args.hub c.run_alone-ended.new.self c.args.chooser c.run_alone-ended.new.chooser
    c.run_alone-ended.ensures.plays c.run_alone-ended.ensures.so_far

pub returns-clause-so_far : goal.returns-clause-so_far
returns-clause-so_far g c =
    ended_so_far c.run_alone-ended.result (record { picks = g.C.Chooser.picks; next = g.C.Chooser.next }) c.args.hub c.run_alone-ended.new.self c.args.chooser c.run_alone-ended.new.chooser
    c.run_alone-ended.ensures.plays c.run_alone-ended.ensures.so_far
