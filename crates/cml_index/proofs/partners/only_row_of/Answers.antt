use Rattle.std.proofs.Common.{◌∙◌, ap, sym}
use Rattle.cml_scan.specs.Scan.{offers_of}
use Rattle.cml_index.specs.Posts as spec
use Rattle.cml_index.proofs.Alone.{if_some}
use Rattle.cml_index.proofs.Waits.{rows_there, found_there}
use Rattle.cml_index.proofs.partners.only_row_of.Goals as goal

pub returns-in-Some-clause-only : goal.returns-in-Some-clause-only
returns-in-Some-clause-only c =
    let es = c.args.core.now.entries.items in
    let told = spec.told c.args.core.now.flags.entries in
    if_some c.only_row.result c.only_row.ensures.only (λ row only. found_there told es c.args.head c.requires.sorted
    ∙ ap (rows_there told (offers_of es) c.args.head) (sym c.wait_at.ensures.value ∙ c.in-Some.is) ∙ only)
