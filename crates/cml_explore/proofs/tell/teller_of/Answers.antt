use Rattle.cml_explore.proofs.ToldLemmas.{teller_so}
use Rattle.cml_explore.proofs.tell.teller_of.Goals as goal

pub returns-in_ok-who_is-in-Some : goal.returns-in_ok-who_is-in-Some
returns-in_ok-who_is-in-Some c = teller_so c.args.hub.now c.args.spot c.in-Some.spot _ c.in-Some.is c.in_ok-who_is-in-Some.ensures
