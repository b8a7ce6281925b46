use Rattle.std.proofs.lemmas.Result.{IfOk-weaker}
use Rattle.cml_arguments.proofs.OddsLemmas.{told_other}
use Rattle.cml_arguments.proofs.odds.watch_odds.Goals as goal

pub returns-in-None : goal.returns-in-None
returns-in-None c =
    let none = rw (c.in-None.is, c.order_word-order.ensures, c.is_ordered.ensures, c.is_some-watch.ensures) at c.in_ok-told.ensures in
    IfOk-weaker c.stop_odds.result _ _ (λ told others. told_other _ _ _ none others) c.stop_odds.ensures
