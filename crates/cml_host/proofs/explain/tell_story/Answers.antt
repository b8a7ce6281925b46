use Rattle.std.proofs.Common.{rules, ◌≡◌, List, [], subst}
use Rattle.cml_schedule.specs.declared.item.Item.{Item}
use Rattle.cml_host.specs.Narrated.{PlanTold}
use Rattle.cml_host.specs.Replies.{passage, plain_reply}
use Rattle.cml_host.proofs.explain.tell_story.Goals as goal

pub returns-clause-told : goal.returns-clause-told
returns-clause-told g c =
    let story = c.args.story in
    let output = passage g.O.Write.contents c.args.out.now c.explain_items-made.new.out in
    let all : c.as_slice-items.result.now ≡ story.plan.items = search rules in
    subst (λ (xs : List Item). PlanTold xs story.hub output (plain_reply [] c.explain_items-made.result)) all c.explain_items-made.ensures.told
