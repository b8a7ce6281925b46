use Rattle.cml_explore.proofs.ExploreLemmas.{added_by}
use Rattle.cml_explore.proofs.explored.Explored.add.Goals as goal

pub returns-clause-added : goal.returns-clause-added
returns-clause-added c =
    added_by c.add_hub-added.result c.args.program.now c.args.asked.now.budget c.args.asked.now.orders c.of-order.result
    c.args.asked.now.servers.now c.args.asked.now.wanted c.args.asked.now.until.now c.args.seed c.in_ok-hub.hub _ _ c.of-order.ensures c.in_ok-hub.ensures
    c.add_hub-added.ensures.added
