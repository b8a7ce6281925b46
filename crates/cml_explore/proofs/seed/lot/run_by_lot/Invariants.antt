use Rattle.cml_explore.specs.Draws.{LeftDrawn}
use Rattle.cml_explore.specs.Generators.{by_generator}
use Rattle.cml_explore.specs.Lots.{by_lot}
use Rattle.cml_explore.proofs.seed.lot.run_by_lot.Given as goal

-- so many items more at most
abbrev pub invariant-items : goal.invariant-items
invariant-items l = LeftDrawn (by_lot by_generator) l.fn.hub l.fn.chooser l.left l.hub l.chooser

abbrev pub decreases-items : goal.decreases-items
decreases-items l = l.left
