use Rattle.std.proofs.Common.{◌∙◌, cond, [], ◌∷◌, length, ap, sym}
use Rattle.std.proofs.lemmas.List.{length-map}
use Rattle.cml_scan.specs.declared.meet.Meet.TheVariants.{Single}
use Rattle.cml_scan.specs.Scan.{offers_of}
use Rattle.cml_index.specs.Heads.{pair_of}
use Rattle.cml_index.specs.Posts as spec
use Rattle.cml_index.specs.Waits.{rows_by_lane}
use Rattle.cml_index.proofs.partners.count_at.Goals as goal

pub returns-in-Some-clause-count : goal.returns-in-Some-clause-count
returns-in-Some-clause-count c =
    let told = spec.told c.args.core.now.flags.entries in
    let os = offers_of c.args.core.now.entries.items in
    c.others_count.ensures.count
    ∙ sym (ap (λ m. length (rows_by_lane told os c.args.head c.args.wait m)) (sym c.met_by.ensures ∙ c.in-Some.is) ∙ length-map _ (pair_of c.args.head))

pub returns-then-is_lit_by-clause-count : goal.returns-then-is_lit_by-clause-count
returns-then-is_lit_by-clause-count c =
    let told = spec.told c.args.core.now.flags.entries in
    let os = offers_of c.args.core.now.entries.items in
    sym (ap (λ m. length (rows_by_lane told os c.args.head c.args.wait m)) (sym c.met_by.ensures ∙ c.in-None.is)
    ∙ ap (λ r. length (cond r (Single c.args.head.tid c.args.head.leaf ∷ []) [])) (sym c.is_lit_by.ensures.value ∙ c.if-is_lit_by.true))

pub returns-else-is_lit_by-clause-count : goal.returns-else-is_lit_by-clause-count
returns-else-is_lit_by-clause-count c =
    let told = spec.told c.args.core.now.flags.entries in
    let os = offers_of c.args.core.now.entries.items in
    sym (ap (λ m. length (rows_by_lane told os c.args.head c.args.wait m)) (sym c.met_by.ensures ∙ c.in-None.is)
    ∙ ap (λ r. length (cond r (Single c.args.head.tid c.args.head.leaf ∷ []) [])) (sym c.is_lit_by.ensures.value ∙ c.if-is_lit_by.false))
