use Rattle.cml_explore.specs.Searching.{Steps}
use Rattle.cml_explore.proofs.SearchLemmas.{NeededFrom}
use Rattle.cml_explore.proofs.shrink.search.Search.pass.Given as goal

-- what came of the items from the last one on
abbrev pub invariant-loop-done : goal.invariant-loop-done
invariant-loop-done l = Steps l.goal (NeededFrom l.goal l.fn.self.items l.done) l.fn.self l.changed l.self
