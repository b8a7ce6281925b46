use Rattle.cml_explore.specs.Searching.{Goes}
use Rattle.cml_explore.proofs.shrink.gather.gather.Given as goal

-- what was moved so far
abbrev pub invariant-loop-number : goal.invariant-loop-number
invariant-loop-number l = Goes l.goal l.fn.search l.search
