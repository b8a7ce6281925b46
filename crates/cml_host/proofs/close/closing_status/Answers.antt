use Rattle.std.proofs.Common.{◌∙◌, ap}
use Rattle.cml_host.specs.Closed.{plain_asked}
use Rattle.cml_host.specs.Told.{end_status}
use Rattle.cml_host.proofs.ClosedLemmas.{status_bad, status_fine}
use Rattle.cml_host.proofs.close.closing_status.Goals as goal

pub returns-then-unwell : goal.returns-then-unwell
returns-then-unwell c = status_bad (plain_asked c.args.asked.now) c.args.hub.now c.args.kept c.is_unwell-unwell.result c.is_unwell-unwell.ensures c.if-unwell.true

pub returns-else-unwell : goal.returns-else-unwell
returns-else-unwell c =
    status_fine (plain_asked c.args.asked.now) c.args.hub.now c.args.kept c.is_unwell-unwell.result c.end_status.result c.is_unwell-unwell.ensures c.if-unwell.false
    (c.end_status.ensures ∙ ap end_status c.end.ensures)
