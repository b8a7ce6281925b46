use Rattle.std.proofs.Common.{rules, ◌≡◌}
use Rattle.cml_text.specs.Printed.{printed}
use Rattle.cml_host.proofs.script.print_file.Goals as goal

pub returns-clause-ok : goal.returns-clause-ok
returns-clause-ok g c =
    let found = c.in_ok-text.ensures.ok in
    let all : c.into_bytes.result.items ≡ printed c.in_ok-text.forms.items = search rules in
    (c.in_ok-text.forms.items, (c.in_ok-text.text.items, found.0, found.1), all)
