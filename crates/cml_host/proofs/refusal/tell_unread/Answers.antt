use Rattle.std.proofs.Common.{rules, ◌≡◌}
use Rattle.cml_host.specs.Refused.{unread_line}
use Rattle.cml_host.proofs.RefusedLemmas.{line_is}
use Rattle.cml_host.proofs.refusal.tell_unread.Goals as goal

pub returns : goal.returns
returns c =
    let same : c.as_bytes.result.now ≡ unread_line c.args.name.now = search rules in
    line_is c.args.explains c.as_bytes.result.now (unread_line c.args.name.now) same c.with_why.result c.with_why.ensures
