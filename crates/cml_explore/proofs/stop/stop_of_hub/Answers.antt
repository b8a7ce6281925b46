use Rattle.cml_explore.proofs.StopLemmas.{stop_so}
use Rattle.cml_explore.proofs.stop.stop_of_hub.Goals as goal

pub returns : goal.returns
returns c =
    stop_so c.args.asked.now c.args.seed c.args.hub.now c.in_ok-judged.judged.items _ _ _ _ _ c.in_ok-judged.ensures c.as_slice.ensures.value c.fate_of.ensures
    c.stop_kind-kind.ensures c.of.ensures c.stopped.ensures
