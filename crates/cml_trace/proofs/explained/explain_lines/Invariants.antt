use Rattle.std.proofs.Common.{length}
use Rattle.cml_trace.proofs.ExplainedLemmas.{Telling}
use Rattle.cml_trace.proofs.explained.explain_lines.Given as goal

-- what was told of the lines before these
abbrev pub invariant-loop-number : goal.invariant-loop-number
invariant-loop-number g l = Telling l.fn.book l.fn.lines l.book l.lines l.fn.told.items l.told.items

abbrev pub decreases-loop-number : goal.decreases-loop-number
decreases-loop-number g l = length l.lines.left
