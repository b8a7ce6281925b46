use Rattle.std.proofs.Common.{rules, ◌≡◌, Some}
use Rattle.std.proofs.lemmas.Result.{IfOk-weaker}
use Rattle.cml_arguments.specs.Words.{record_of}
use Rattle.cml_arguments.proofs.OddsLemmas.{told_over}
use Rattle.cml_arguments.proofs.odds.over_record.Goals as goal

pub returns-in-Some : goal.returns-in-Some
returns-in-Some c =
    let named : record_of c.args.options.now ≡ Some c.in-Some.record.now = search rules in
    IfOk-weaker c.told_replaced.result _ _ (λ told said. told_over c.args.options.now c.in-Some.record.now _ named said) c.told_replaced.ensures
