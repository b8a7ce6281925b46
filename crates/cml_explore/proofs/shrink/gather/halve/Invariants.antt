use Rattle.cml_explore.specs.Searching.{Goes}
use Rattle.cml_explore.proofs.shrink.gather.halve.Given as goal

-- what was left out so far
abbrev pub invariant-loop-size : goal.invariant-loop-size
invariant-loop-size l = Goes l.goal l.fn.search l.search

abbrev pub decreases-loop-size : goal.decreases-loop-size
decreases-loop-size l = l.size
