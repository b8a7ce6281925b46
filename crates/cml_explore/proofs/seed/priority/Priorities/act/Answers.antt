use Rattle.std.proofs.Common.{ap, length}
use Rattle.cml_explore.proofs.PriorityLemmas.{acted_item, acted_state}
use Rattle.cml_explore.proofs.seed.priority.Priorities.act.Goals as goal

pub returns-clause-item : goal.returns-clause-item
returns-clause-item c =
    acted_item _ c.args.hub.now.course.world c.args.self.now _ _ _ c.self.inside.chooser c.args.thread _ c.self.view_is c.item_of_actor-item.ensures.item

pub returns-clause-state : goal.returns-clause-state
returns-clause-state c =
    acted_state _ _ c.party_of.result c.args.hub.now.course.world c.args.self.now c.lower.new.self _ _ _ c.self.inside.chooser c.item_of_actor-item.new.chooser c.args.thread c.self.view_is
    c.item_of_actor-item.ensures.state c.party_of.ensures (ap length c.schedule.ensures.items) c.lower.ensures
