use Rattle.std.proofs.Common.{◌≡◌, ◌∙◌, false, length, sym}
use Rattle.std.specs.Prelude.{◌==◌}
use Rattle.cml_host.proofs.ClosedLemmas.{none_or}
use Rattle.cml_host.proofs.broken.push_judged.Goals as goal

pub returns : goal.returns
returns c =
    let some : (length c.args.properties.now == 0) ≡ false = sym c.is_empty.ensures ∙ c.if-is_empty.false in
    none_or c.push_all.result c.args.properties.now c.args.out.now.items c.push_all.new.out.items some
