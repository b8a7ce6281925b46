use Rattle.std.proofs.Common.{rules, ◌≡◌, ◌∙◌, not, length, ap}
use Rattle.std.specs.Prelude.{◌==◌}
use Rattle.cml_host.proofs.ClosedLemmas.{asked_some}
use Rattle.cml_host.proofs.close.some_asked.Goals as goal

pub returns : goal.returns
returns c =
    let none : c.is_empty.result ≡ (length c.args.properties.now == 0) = search rules in
    ap not none ∙ asked_some c.args.properties.now
