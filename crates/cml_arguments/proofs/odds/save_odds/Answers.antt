use Rattle.std.proofs.Common.{rules, ◌≡◌, Some, option_map}
use Rattle.std.proofs.lemmas.Result.{IfOk-weaker}
use Rattle.cml_arguments.proofs.OddsLemmas.{told_saved}
use Rattle.cml_arguments.proofs.odds.save_odds.Goals as goal

pub returns-in-Some : goal.returns-in-Some
returns-in-Some c =
    let named : option_map (λ start. start.now) c.args.save ≡ Some c.in-Some.start.now = search rules in
    IfOk-weaker c.kinds_odds.result _ _ (λ told said. told_saved _ _ _ _ named said) c.kinds_odds.ensures
