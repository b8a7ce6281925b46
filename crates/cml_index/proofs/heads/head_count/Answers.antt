use Rattle.std.proofs.Common.{arith}
use Rattle.cml_scan.specs.Scan.{offers_of}
use Rattle.cml_index.specs.declared.heads.HeadKind.TheVariants.{Alone, Met}
use Rattle.cml_index.specs.Heads.{is_sought}
use Rattle.cml_index.proofs.Seeking.{both_fewer, never_both, heads_many}
use Rattle.cml_index.proofs.heads.head_count.Goals as goal

pub overflow_add-result : goal.overflow_add-result
overflow_add-result c =
    let es = c.args.core.now.entries.items in
    let fewer = both_fewer (is_sought Alone c.args.core.now.flags.entries (offers_of es))
    (is_sought Met c.args.core.now.flags.entries (offers_of es))
    (never_both c.args.core.now.flags.entries (offers_of es)) (offers_of es) in
    omega (arith, fewer, c.requires.alone, c.requires.all, c.count_met.ensures.count)

pub returns-clause-count : goal.returns-clause-count
returns-clause-count c =
    let es = c.args.core.now.entries.items in
    let many = heads_many c.args.core.now.flags.entries es c.requires.sorted in
    omega (arith, many, c.requires.alone, c.count_met.ensures.count)
