use Rattle.std.proofs.Common.{◌∙◌, ap, sym, subst}
use Rattle.cml_scan.specs.Light.{lit_by}
use Rattle.cml_scan.specs.Order.{IsSorted, base_at, row_at}
use Rattle.cml_scan.specs.Scan.{offers_of}
use Rattle.cml_scan.proofs.Members.{has_found}
use Rattle.cml_scan.proofs.Ordered.{offers_ascend}
use Rattle.cml_index.specs.Posts as spec
use Rattle.cml_index.proofs.index.OfferIndex.has_tallied.Goals as goal

pub returns-in-Single-clause-value : goal.returns-in-Single-clause-value
returns-in-Single-clause-value c =
    let es = c.args.self.now.entries in
    let lit = lit_by (spec.told c.args.self.now.flags) in
    let up : IsSorted es = subst (λ (x : spec.PlainIndex). IsSorted x.entries) c.self.view_is c.self.invariant.0.sorted in
    c.is_lit_at.ensures.value ∙ ap (row_at lit (λ p. base_at p (offers_of es))) (sym c.in-Single.is) ∙ sym (has_found lit c.args.row.now (offers_of es) (offers_ascend es up))

pub returns-in-Pair-clause-value : goal.returns-in-Pair-clause-value
returns-in-Pair-clause-value c =
    let es = c.args.self.now.entries in
    let lit = lit_by (spec.told c.args.self.now.flags) in
    let up : IsSorted es = subst (λ (x : spec.PlainIndex). IsSorted x.entries) c.self.view_is c.self.invariant.0.sorted in
    c.meet.ensures.value ∙ ap (row_at lit (λ p. base_at p (offers_of es))) (sym c.in-Pair.is) ∙ sym (has_found lit c.args.row.now (offers_of es) (offers_ascend es up))
