use Rattle.std.proofs.Common.{map}
use Rattle.cml_explore.proofs.ToldLemmas.{seed_so}
use Rattle.cml_explore.proofs.tell.Script.seed_told.Goals as goal

pub returns : goal.returns
returns c =
    let s = c.args.self.now in
    seed_so c.hub_told-told.result (map (λ own. own.items) s.places.now) s.program.now s.asked c.args.seed c.in_ok-hub.hub c.of-order.result
    c.of-order.ensures c.in_ok-hub.ensures c.hub_told-told.ensures.judged c.hub_told-told.ensures.run
