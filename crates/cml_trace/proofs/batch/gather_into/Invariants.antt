use Rattle.std.proofs.Common.{length}
use Rattle.cml_trace.proofs.BatchLemmas.{Gathering}
use Rattle.cml_trace.proofs.batch.gather_into.Given as goal

abbrev pub invariant-loop-number : goal.invariant-loop-number
invariant-loop-number l = Gathering l.fn.lines l.lines l.commands.items

abbrev pub decreases-loop-number : goal.decreases-loop-number
decreases-loop-number l = length l.lines.left
