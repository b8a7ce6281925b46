use Rattle.std.proofs.Common.{arith}
use Rattle.cml_text.proofs.LineLemmas.{lines_cut, lines_whole}
use Rattle.cml_text.proofs.line.first_line.Goals as goal

pub returns-then-byte-eq10-clause-first : goal.returns-then-byte-eq10-clause-first
returns-then-byte-eq10-clause-first c = lines_cut c.args.text.now c.loop-end.end (omega arith) c.if-byte-eq10.true c.loop-end.invariant

pub returns-clause-first : goal.returns-clause-first
returns-clause-first c = lines_whole c.args.text.now (omega (arith, c.requires)) (λ k h. c.loop-end.invariant k (omega arith))
