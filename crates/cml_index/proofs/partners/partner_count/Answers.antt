use Rattle.std.proofs.Common.{◌∙◌, length, ap, sym}
use Rattle.cml_scan.specs.Scan.{offers_of}
use Rattle.cml_index.specs.Posts as spec
use Rattle.cml_index.proofs.Waits.{rows_there, found_there}
use Rattle.cml_index.proofs.partners.partner_count.Goals as goal

pub returns-in-Some-clause-count : goal.returns-in-Some-clause-count
returns-in-Some-clause-count c =
    let es = c.args.core.now.entries.items in
    let told = spec.told c.args.core.now.flags.entries in
    c.count_at.ensures.count ∙ sym (ap length (found_there told es c.args.head c.requires.sorted ∙ ap (rows_there told (offers_of es) c.args.head) (sym c.wait_at.ensures.value ∙ c.in-Some.is)))

pub returns-in-None-clause-count : goal.returns-in-None-clause-count
returns-in-None-clause-count c =
    let es = c.args.core.now.entries.items in
    let told = spec.told c.args.core.now.flags.entries in
    sym (ap length (found_there told es c.args.head c.requires.sorted ∙ ap (rows_there told (offers_of es) c.args.head) (sym c.wait_at.ensures.value ∙ c.in-None.is)))
