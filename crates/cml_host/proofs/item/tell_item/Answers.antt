use Rattle.std.proofs.Common.{rules, ◌≡◌, ◌++◌, codes}
use Rattle.std.specs.Fmt.{decimal}
use Rattle.cml_text.specs.Lines.{line}
use Rattle.cml_host.proofs.RefusedLemmas.{line_is}
use Rattle.cml_host.proofs.item.tell_item.Goals as goal

pub returns : goal.returns
returns c =
    let said = line (codes "schedule item " ++ decimal c.args.number) in
    let same : c.as_bytes.result.now ≡ said = search rules in
    line_is c.args.explains c.as_bytes.result.now said same c.explained.result c.explained.ensures
