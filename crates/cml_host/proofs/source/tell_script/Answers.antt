use Rattle.std.proofs.Common.{rules, ◌≡◌}
use Rattle.cml_host.specs.Scripts.{script_line}
use Rattle.cml_host.proofs.RefusedLemmas.{line_is}
use Rattle.cml_host.proofs.source.tell_script.Goals as goal

pub returns : goal.returns
returns c =
    let line = script_line (record { kind = c.args.kind; at = c.args.at }) in
    let same : c.as_bytes.result.now ≡ line = search rules in
    line_is c.args.source.now.explains c.as_bytes.result.now line same c.explained.result c.explained.ensures
