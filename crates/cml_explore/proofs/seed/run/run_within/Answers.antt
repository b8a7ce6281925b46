use Rattle.cml_explore.proofs.RunLemmas.{ran_out}
use Rattle.cml_explore.proofs.seed.run.run_within.Goals as goal

pub returns-in-Ok : goal.returns-in-Ok
returns-in-Ok c =
    ran_out c.args.program.now c.args.budget c.args.order c.args.span c.args.seed c.in_ok-hub.hub c.run_so.new.hub c.in_ok-hub.ensures
    c.schedule-so_far.ensures.leads c.in-Ok.ensures
