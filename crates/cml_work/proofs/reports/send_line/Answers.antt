use Rattle.std.proofs.Common.{rules, ◌≡◌}
use Rattle.cml_work.proofs.Sending.{sent_of, failed_of}
use Rattle.cml_work.proofs.reports.send_line.Goals as goal

pub returns-clause-sent : goal.returns-clause-sent
returns-clause-sent g c =
    let same : c.as_bytes.result.now ≡ c.args.line.now = search rules in
    sent_of c.write_out.result _ c.args.line.now c.as_bytes.result.now same c.write_out.ensures.ok c.write_out.ensures.err

pub returns-clause-failed : goal.returns-clause-failed
returns-clause-failed g c = failed_of c.write_out.result _ _ c.write_out.ensures.fine c.write_out.ensures.failed
