use Rattle.cml_arguments.proofs.OddsLemmas.{saves_by}
use Rattle.cml_arguments.proofs.odds.saves_over.Goals as goal

pub returns-in-Some : goal.returns-in-Some
returns-in-Some c =
    saves_by c.args.start.now c.args.name.now c.as_bytes.result.now c.as_bytes-2.result.now c.in-Some.digits.now c.are_digits.result
    c.as_bytes.ensures.value c.as_bytes-2.ensures.value c.in-Some.ensures c.are_digits.ensures
