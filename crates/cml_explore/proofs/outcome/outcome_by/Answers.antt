use Rattle.cml_explore.proofs.OutcomeLemmas.{given_by}
use Rattle.cml_explore.proofs.outcome.outcome_by.Goals as goal

pub returns : goal.returns
returns c = given_by c.outcome_at-outcome.result c.args.program.now c.args.items.now c.in_ok-hub.hub c.in_ok-hub.ensures c.outcome_at-outcome.ensures
