use Rattle.cml_host.proofs.SayLemmas.{sent_of}
use Rattle.cml_host.proofs.reports.send_reports.Goals as goal

pub returns-clause-sent : goal.returns-clause-sent
returns-clause-sent g c =
    sent_of c.send_reports.result _ _ c.send_reports.new.writer.calls c.args.err.now.failed c.send_reports.new.writer.failed c.requires.fresh c.send_reports.ensures.sent
    c.send_reports.ensures.failed
