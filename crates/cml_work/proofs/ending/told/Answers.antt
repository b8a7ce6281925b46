use Rattle.std.proofs.Common.{◌-◌, List, take, drop, length, subst}
use Rattle.cml_schedule.specs.Reports.{PlainReport}
use Rattle.cml_stream.specs.Streams.{stream}
use Rattle.cml_work.specs.Seen.{texts_of, IsSentOut}
use Rattle.cml_work.proofs.Writing.{sent_rest}
use Rattle.cml_work.proofs.ending.told.Goals as goal

pub returns-clause-written : goal.returns-clause-written
returns-clause-written g c =
    let a = g.W.Write.contents c.args.writer.now.stream.now in
    let b = g.W.Write.contents c.send_reports.new.writer.stream.now in
    let sent = subst (λ (l : List PlainReport). IsSentOut
    (texts_of (take (length l - length c.args.seen.now) (drop (length c.args.seen.now) l)))
    c.send_reports.result (stream a b)) c.reports-reports.ensures.reports c.send_reports.ensures.sent in
    λ start took. sent_rest start a b c.args.hub.now.reports c.args.seen.now c.send_reports.result c.requires took sent
