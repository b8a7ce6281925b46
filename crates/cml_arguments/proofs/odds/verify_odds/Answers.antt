use Rattle.std.proofs.lemmas.Result.{IfOk-weaker}
use Rattle.cml_arguments.proofs.OddsLemmas.{told_other}
use Rattle.cml_arguments.proofs.odds.verify_odds.Goals as goal

pub returns-in-None : goal.returns-in-None
returns-in-None c =
    let none = rw c.in-None.is at c.in_ok-told.ensures in
    IfOk-weaker c.verify_save_odds.result _ _ (λ told others. told_other _ _ _ none others) c.verify_save_odds.ensures
