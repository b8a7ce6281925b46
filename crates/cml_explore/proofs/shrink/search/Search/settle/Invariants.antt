use Rattle.cml_explore.specs.Searching.{Goes}
use Rattle.cml_explore.proofs.shrink.search.Search.settle.Given as goal

-- what was left out so far; each pass but the last uses a try
abbrev pub invariant-passes : goal.invariant-passes
invariant-passes l = Goes l.goal l.fn.self l.self

abbrev pub decreases-passes : goal.decreases-passes
decreases-passes l = l.self.left
