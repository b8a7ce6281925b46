use Rattle.cml_explore.specs.Searching.{Goes}
use Rattle.cml_explore.proofs.shrink.gather.cut_ranges.Given as goal

-- what was left out so far
abbrev pub invariant-loop-end : goal.invariant-loop-end
invariant-loop-end l = Goes l.goal l.fn.search l.search

abbrev pub decreases-loop-end : goal.decreases-loop-end
decreases-loop-end l = l.end
