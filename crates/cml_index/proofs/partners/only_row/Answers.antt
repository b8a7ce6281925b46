use Rattle.std.proofs.Common.{◌∙◌, cond, [], ◌∷◌, ap, sym}
use Rattle.cml_scan.specs.declared.meet.Meet.TheVariants.{Single}
use Rattle.cml_scan.specs.Scan.{offers_of}
use Rattle.cml_index.specs.Posts as spec
use Rattle.cml_index.specs.Waits.{rows_by_lane}
use Rattle.cml_index.proofs.Alone.{if_some}
use Rattle.cml_index.proofs.partners.only_row.Goals as goal

pub returns-in-Some-clause-only : goal.returns-in-Some-clause-only
returns-in-Some-clause-only c =
    let told = spec.told c.args.core.now.flags.entries in
    let os = offers_of c.args.core.now.entries.items in
    if_some c.row_at_slot.result c.row_at_slot.ensures.only (λ row only. ap (rows_by_lane told os c.args.head c.args.wait) (sym c.met_by.ensures ∙ c.in-Some.is) ∙ only)

pub returns-then-is_lit_by-clause-only : goal.returns-then-is_lit_by-clause-only
returns-then-is_lit_by-clause-only c =
    let told = spec.told c.args.core.now.flags.entries in
    let os = offers_of c.args.core.now.entries.items in
    ap (rows_by_lane told os c.args.head c.args.wait) (sym c.met_by.ensures ∙ c.in-None.is)
    ∙ ap (λ r. cond r (Single c.args.head.tid c.args.head.leaf ∷ []) []) (sym c.is_lit_by.ensures.value ∙ c.if-is_lit_by.true)
