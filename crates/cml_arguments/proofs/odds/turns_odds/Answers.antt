use Rattle.std.proofs.lemmas.Result.{IfOk-weaker}
use Rattle.cml_arguments.proofs.OddsLemmas.{told_other}
use Rattle.cml_arguments.proofs.odds.turns_odds.Goals as goal

pub returns-in-None : goal.returns-in-None
returns-in-None c =
    let none = rw (c.in-None.is, c.is_some-priority.ensures) at c.in_ok-told.ensures in
    IfOk-weaker c.workers_odds.result _ _ (λ told others. told_other _ _ _ none others) c.workers_odds.ensures
