use Rattle.cml_explore.proofs.EndLemmas.{below_all, in_order}
use Rattle.cml_explore.proofs.ends.order_of.Goals as goal

pub returns-clause-ranked : goal.returns-clause-ranked
returns-clause-ranked c = in_order c.numbers_of.result c.args.told.now c.in_ok-ranks.ranks.items c.as_slice.result.now c.in_ok-ranks.ensures c.as_slice.ensures.value c.numbers_of.ensures

pub returns-clause-below : goal.returns-clause-below
returns-clause-below c = below_all c.numbers_of.result c.args.told.now c.in_ok-ranks.ranks.items c.as_slice.result.now c.in_ok-ranks.ensures c.as_slice.ensures.value c.numbers_of.ensures
