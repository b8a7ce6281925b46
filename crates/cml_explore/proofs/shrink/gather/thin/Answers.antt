use Rattle.cml_explore.proofs.SearchLemmas.{goes_on}
use Rattle.cml_explore.proofs.shrink.gather.thin.Goals as goal

pub loop-size-preserved : goal.loop-size-preserved
loop-size-preserved c =
    goes_on c.args.goal.now c.args.search.now c.loop-size.search c.cut_ranges.new.search c.loop-size.invariant c.in_ok-cut_ranges.ensures
