use Rattle.std.proofs.Common.{ap, ◌∙◌}
use Rattle.std.specs.Prelude.{Option}
use Rattle.cml_schedule.specs.declared.item.Item.{Item}
use Rattle.cml_explore.specs.Priorities.{PlainPriorities}
use Rattle.cml_explore.proofs.PriorityLemmas.{next_acts}
use Rattle.cml_explore.proofs.seed.priority.Priorities.next_item.Goals as goal

pub returns : goal.returns
returns c =
    let acts = next_acts _ c.args.hub.now.course.world c.args.self.now c.args.ready.now c.highest-highest.result
    c.actor-thread.result c.requires c.highest-highest.ensures c.actor-thread.ensures in
    record {
      item = c.act.ensures.item ∙ ap (λ (d : Option Item × PlainPriorities). d.0) acts;
      state = c.act.ensures.state ∙ ap (λ (d : Option Item × PlainPriorities). d.1) acts;
    }
