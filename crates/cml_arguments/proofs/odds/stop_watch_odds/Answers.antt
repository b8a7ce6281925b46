use Rattle.cml_arguments.proofs.odds.stop_watch_odds.Goals as goal

pub returns : goal.returns
returns c = rw c.is_some.ensures at c.clash.ensures
