use Rattle.cml_explore.proofs.SearchLemmas.{finds_so, goes_on}
use Rattle.cml_explore.proofs.shrink.shrunk.find.Goals as goal

pub returns : goal.returns
returns c =
    finds_so c.args.goal.now c.args.given.now c.args.tries c.in_ok-search.search c.halve.new.search c.settle.new.self c.thin.new.search c.settle-2.new.self
    c.in_ok-search.ensures c.in_ok-halve.ensures c.in_ok-settle.ensures
    (goes_on c.args.goal.now c.settle.new.self c.gather.new.search c.thin.new.search c.in_ok-gather.ensures c.in_ok-thin.ensures) c.in_ok-settle-2.ensures
