use Rattle.cml_explore.proofs.EndLemmas.{ended_by}
use Rattle.cml_explore.proofs.explored.Explored.add_end.Goals as goal

pub returns-in-Ok : goal.returns-in-Ok
returns-in-Ok c =
    ended_by c.add_hub-added.result _ c.args.program.now c.args.asked.now.servers.now c.args.asked.now.wanted c.args.asked.now.until.now c.args.items.now c.args.number c.in_ok-hub.hub c.args.self.now
    c.add_hub-added.new.self c.requires.none c.in-Ok.is c.in_ok-hub.ensures c.add_hub-added.ensures.added
