use Rattle.std.proofs.Common.{subst, sym}
use Rattle.cml_explore.specs.declared.seed.order.Order.{Order}
use Rattle.cml_explore.specs.SeedRuns.{IsSpan}
use Rattle.cml_explore.proofs.RunLemmas.{span_queue, span_lot}
use Rattle.cml_explore.proofs.seed.run.span_of.Goals as goal

pub returns-in-Queue-clause-span : goal.returns-in-Queue-clause-span
returns-in-Queue-clause-span c =
    subst (λ (o : Order). IsSpan c.args.program.now c.args.budget o c.args.seed 1) (sym c.in-Queue.is) (span_queue c.args.program.now c.args.budget c.args.seed 1)

pub returns-in-Lot-clause-span : goal.returns-in-Lot-clause-span
returns-in-Lot-clause-span c =
    subst (λ (o : Order). IsSpan c.args.program.now c.args.budget o c.args.seed 1) (sym c.in-Lot.is) (span_lot c.args.program.now c.args.budget c.args.seed 1)
