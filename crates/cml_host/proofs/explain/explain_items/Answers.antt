use Rattle.std.proofs.Common.{◌<◌, length, get_or}
use Rattle.cml_schedule.specs.declared.item.Item.TheVariants.{Turn}
use Rattle.cml_host.specs.Replies.{passage}
use Rattle.cml_host.proofs.StoryLemmas.{item_at, plan_cut, plan_ended, plan_held_up}
use Rattle.cml_host.proofs.explain.explain_items.Goals as goal

pub returns-then-count-items-clause-told : goal.returns-then-count-items-clause-told
returns-then-count-items-clause-told g c =
    let items = c.args.items.now in
    let count = c.in-Ok.count in
    let within : count < length items = c.if-count-items.true in
    plan_held_up items c.args.hub.now c.tell_items.new.hub count (get_or items count (Turn (record { 0 = 0 }))) (passage g.O.Write.contents c.args.out.now c.tell_items.new.out) _
    within (item_at items count (Turn (record { 0 = 0 })) within) c.in-Ok.ensures.ok c.refuse_item.ensures

pub returns-else-count-items-clause-told : goal.returns-else-count-items-clause-told
returns-else-count-items-clause-told g c =
    plan_ended c.args.items.now c.args.hub.now c.tell_items.new.hub c.in-Ok.count (passage g.O.Write.contents c.args.out.now c.tell_items.new.out) _
    c.if-count-items.false c.in-Ok.ensures.ok c.told_end.ensures

pub returns-in-Err-clause-told : goal.returns-in-Err-clause-told
returns-in-Err-clause-told g c =
    plan_cut c.args.items.now c.args.hub.now c.in-Err.why (passage g.O.Write.contents c.args.out.now c.tell_items.new.out) _ c.in-Err.ensures.err c.cut_by.ensures
