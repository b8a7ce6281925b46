use Rattle.cml_host.proofs.VerifyLemmas.{asked_other}
use Rattle.cml_host.proofs.verify.verify_program.Goals as goal

pub returns-clause-told : goal.returns-clause-told
returns-clause-told c =
    let found = c.in_ok-found.found in
    asked_other c.args.options.now.outcomes _ _ c.if-options.false (found.reach, found.clean, found.made, found.told, found.said.items, c.in_ok-found.ensures.found, c.in_ok-tell_found.ensures)
