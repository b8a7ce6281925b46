use Rattle.std.proofs.Common.{rules, ◌≡◌, List, subst}
use Rattle.cml_hub.specs.Kept.{IsFirstBad}
use Rattle.cml_schedule.specs.declared.item.Item.{Item}
use Rattle.cml_explore.specs.ShrinkEnds.{IsNotGiven}
use Rattle.cml_explore.specs.declared.shrink.fault.ShrinkFault.{ShrinkFault}
use Rattle.cml_host.proofs.ItemLemmas.{bad_within}
use Rattle.cml_host.proofs.shrink.shrink_plan.Goals as goal

pub tell_bad-requires-clause-there : goal.tell_bad-requires-clause-there
tell_bad-requires-clause-there c =
    let p = c.args.both.program in
    let all : c.as_slice-items.result.now ≡ c.args.both.plan.items = search rules in
    rw c.in-Err-BadItem.field-0-is (bad_within p c.args.both.plan.items c.in-Err-BadItem.number
    (subst (λ (xs : List Item). IsFirstBad p xs c.in-Err-BadItem.number) all
    (subst (λ (why : ShrinkFault). IsNotGiven p c.args.asked c.as_slice-items.result.now why) c.in-Err-BadItem.field-0-is c.in-Err-BadItem.ensures.err).0))
