use Rattle.std.proofs.Common.{◌∙◌}
use Rattle.cml_schedule.specs.Reports.{report_text}
use Rattle.cml_work.proofs.Writing.{starts_with}
use Rattle.cml_work.proofs.watching.show.Goals as goal

pub returns-clause-shown : goal.returns-clause-shown
returns-clause-shown g c =
    let sent = c.in-Err.ensures.err in
    starts_with _ (report_text c.args.report.now) c.as_bytes.result.now sent.0 (c.as_bytes.ensures.value ∙ c.in_ok-text.ensures) sent.1
