use Rattle.cml_explore.proofs.StopLemmas.{stop_by_hub}
use Rattle.cml_explore.proofs.stop.stop_at.Goals as goal

pub returns : goal.returns
returns c =
    stop_by_hub c.stop_of_hub-told.result c.args.program.now c.args.asked.now c.args.seed _ c.in_ok-hub.hub c.of-order.ensures c.in_ok-hub.ensures
    c.stop_of_hub-told.ensures
