use Rattle.std.proofs.Common.{rules, ◌≡◌}
use Rattle.cml_host.specs.Wanted.{option_line}
use Rattle.cml_host.proofs.RefusedLemmas.{line_is}
use Rattle.cml_host.proofs.wanted.told_option.Goals as goal

pub returns : goal.returns
returns c =
    let line = option_line c.args.kind c.args.why c.args.at in
    let same : c.as_bytes-2.result.now ≡ line = search rules in
    line_is c.args.explains c.as_bytes-2.result.now line same c.explained.result c.explained.ensures
