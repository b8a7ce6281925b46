use Rattle.std.proofs.Common.{◌≡◌, ◌∙◌, ◌-◌, length, map, ap, arith}
use Rattle.std.specs.Prelude.{slice_get}
use Rattle.std.specs.List.{filter}
use Rattle.std.proofs.lemmas.List.{length-map}
use Rattle.cml_scan.specs.Order.{place}
use Rattle.cml_scan.specs.Scan.{offers_of}
use Rattle.cml_index.specs.declared.heads.HeadKind.TheVariants.{Alone}
use Rattle.cml_index.specs.Heads.{is_sought}
use Rattle.cml_index.proofs.Seeking.{found_first, found_behind, heads_are, heads_many}
use Rattle.cml_index.proofs.heads.head.Goals as goal

pub head_met-requires-clause-within : goal.head_met-requires-clause-within
head_met-requires-clause-within c =
    let es = c.args.core.now.entries.items in
    let many = heads_many c.args.core.now.flags.entries es c.requires.indexed.sorted in
    omega (arith, many, c.requires.indexed.alone, c.requires.within, c.if-k-core.false)

pub returns-then-k-core-clause-value : goal.returns-then-k-core-clause-value
returns-then-k-core-clause-value c =
    let es = c.args.core.now.entries.items in
    ap (λ ps. slice_get ps c.args.k) (heads_are c.args.core.now.flags.entries es c.requires.indexed.sorted) ∙ found_first _ _ c.args.k _ c.seek.ensures.value

pub returns-else-k-core-clause-value : goal.returns-else-k-core-clause-value
returns-else-k-core-clause-value c =
    let es = c.args.core.now.entries.items in
    let alone = filter (is_sought Alone c.args.core.now.flags.entries (offers_of es)) (offers_of es) in
    let long : length (map place alone) ≡ length alone = length-map alone place in
    ap (λ ps. slice_get ps c.args.k) (heads_are c.args.core.now.flags.entries es c.requires.indexed.sorted)
    ∙ found_behind (map place alone) _ c.args.k (c.args.k - c.args.core.now.lit) (omega (arith, long, c.requires.indexed.alone, c.if-k-core.false))
    ∙ c.head_met.ensures.value
