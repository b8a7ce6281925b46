use Rattle.cml_explore.proofs.SearchLemmas.{goes_on}
use Rattle.cml_explore.proofs.shrink.gather.cut_ranges.Goals as goal

pub loop-end-preserved : goal.loop-end-preserved
loop-end-preserved c =
    goes_on c.args.goal.now c.args.search.now c.loop-end.search c.cut_range.new.search c.loop-end.invariant c.in_ok-cut_range.ensures
