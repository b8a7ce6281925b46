use Rattle.std.proofs.Common.{length, ap}
use Rattle.cml_explore.proofs.RunLemmas.{queue_long}
use Rattle.cml_explore.proofs.seed.run.run_len.Goals as goal

pub returns : goal.returns
returns c =
    queue_long c.args.program.now c.args.budget 1 c.args.seed _ c.in_ok-hub.hub c.in_ok-hub.ensures (ap length c.schedule.ensures.items)
