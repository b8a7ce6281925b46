use Rattle.std.proofs.Common.{arith}
use Rattle.cml_trace.proofs.LineLemmas.{lines_cut, lines_alone}
use Rattle.cml_trace.proofs.line.cut.Goals as goal

pub returns-then-byte-eq10-clause-cut : goal.returns-then-byte-eq10-clause-cut
returns-then-byte-eq10-clause-cut c = lines_cut c.args.input.now c.loop-end.end (omega arith) c.if-byte-eq10.true c.loop-end.invariant

pub returns-clause-cut : goal.returns-clause-cut
returns-clause-cut c = lines_alone c.args.input.now (λ k h. c.loop-end.invariant k (omega arith))
