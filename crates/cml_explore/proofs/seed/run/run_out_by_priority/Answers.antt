use Rattle.cml_explore.proofs.PriorityLemmas.{plays_so}
use Rattle.cml_explore.proofs.seed.run.run_out_by_priority.Goals as goal

pub returns : goal.returns
returns c =
    plays_so c.run_by_priority.result c.args.depth c.args.span c.args.seed c.args.hub.now c.run_by_priority.new.hub
    c.in_ok-priorities.priorities c.run_by_priority.new.priorities c.in_ok-priorities.ensures
    c.run_by_priority.ensures
