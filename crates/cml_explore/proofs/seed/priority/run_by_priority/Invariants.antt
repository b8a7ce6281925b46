use Rattle.cml_explore.specs.Draws.{LeftDrawn}
use Rattle.cml_explore.specs.Priorities.{by_priority}
use Rattle.cml_explore.proofs.seed.priority.run_by_priority.Given as goal

-- so many items more at most
abbrev pub invariant-items : goal.invariant-items
invariant-items l = LeftDrawn by_priority l.fn.hub l.fn.priorities l.left l.hub l.priorities

abbrev pub decreases-items : goal.decreases-items
decreases-items l = l.left
