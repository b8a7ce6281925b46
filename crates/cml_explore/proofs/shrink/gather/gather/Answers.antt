use Rattle.cml_explore.proofs.SearchLemmas.{goes_on}
use Rattle.cml_explore.proofs.shrink.gather.gather.Goals as goal

pub loop-number-preserved : goal.loop-number-preserved
loop-number-preserved c =
    goes_on c.args.goal.now c.args.search.now c.loop-number.search c.draw_near.new.search c.loop-number.invariant c.in_ok-draw_near.ensures
