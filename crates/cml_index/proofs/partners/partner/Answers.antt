use Rattle.std.proofs.Common.{◌∙◌, ◌<◌, length, ap, sym, subst, arith}
use Rattle.std.specs.Prelude.{slice_get}
use Rattle.cml_scan.specs.Scan.{offers_of}
use Rattle.cml_index.specs.Posts as spec
use Rattle.cml_index.proofs.Waits.{rows_there, found_there}
use Rattle.cml_index.proofs.partners.partner.Goals as goal

pub row_at-requires-clause-within : goal.row_at-requires-clause-within
row_at-requires-clause-within c =
    let es = c.args.core.now.entries.items in
    let told = spec.told c.args.core.now.flags.entries in
    let there = found_there told es c.args.head c.requires.indexed.sorted ∙ ap (rows_there told (offers_of es) c.args.head) (sym c.wait_at.ensures.value ∙ c.in-Some.is) in
    subst (λ rs. c.args.j < length rs) there c.requires.within

pub unreachable-requires : goal.unreachable-requires
unreachable-requires c =
    let es = c.args.core.now.entries.items in
    let told = spec.told c.args.core.now.flags.entries in
    let there = found_there told es c.args.head c.requires.indexed.sorted ∙ ap (rows_there told (offers_of es) c.args.head) (sym c.wait_at.ensures.value ∙ c.in-None.is) in
    let none : c.args.j < 0 = subst (λ rs. c.args.j < length rs) there c.requires.within in
    omega (arith, none)

pub returns-clause-value : goal.returns-clause-value
returns-clause-value c =
    let es = c.args.core.now.entries.items in
    let told = spec.told c.args.core.now.flags.entries in
    let there = found_there told es c.args.head c.requires.indexed.sorted ∙ ap (rows_there told (offers_of es) c.args.head) (sym c.wait_at.ensures.value ∙ c.in-Some.is) in
    ap (λ rs. slice_get rs c.args.j) there ∙ c.row_at.ensures.value
