use Rattle.cml_explore.proofs.RunLemmas.{span_none, span_so, span_some}
use Rattle.cml_explore.proofs.seed.run.points_len.Goals as goal

pub returns-then-depth-le1-clause-span : goal.returns-then-depth-le1-clause-span
returns-then-depth-le1-clause-span c = span_none c.args.depth c.args.program.now c.args.budget c.args.seed 1 c.if-depth-le1.true

pub returns-clause-span : goal.returns-clause-span
returns-clause-span c = span_so c.run_len.result c.args.program.now c.args.budget c.args.depth c.args.seed c.run_len.ensures

pub returns-clause-some : goal.returns-clause-some
returns-clause-some c = span_some c.run_len.result c.args.program.now c.args.budget c.args.seed c.run_len.ensures
