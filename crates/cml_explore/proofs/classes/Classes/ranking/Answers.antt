use Rattle.cml_explore.proofs.RankLemmas.{ranked_so, ranked_below}
use Rattle.cml_explore.proofs.classes.Classes.ranking.Goals as goal

pub returns-clause-ranked : goal.returns-clause-ranked
returns-clause-ranked c = ranked_so c.numbers_of.result c.args.self.now c.in_ok-ranks.ranks.items c.as_slice.result.now c.in_ok-ranks.ensures c.as_slice.ensures.value c.numbers_of.ensures

pub returns-clause-below : goal.returns-clause-below
returns-clause-below c = ranked_below c.numbers_of.result c.args.self.now c.in_ok-ranks.ranks.items c.as_slice.result.now c.in_ok-ranks.ensures c.as_slice.ensures.value c.numbers_of.ensures
