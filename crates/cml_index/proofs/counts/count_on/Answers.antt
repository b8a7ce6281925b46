use Rattle.std.proofs.Common.{◌≡◌, true, false, cond, length, ap, sym, subst, ◌∙◌}
use Rattle.cml_scan.specs.Order.{Ascends, before}
use Rattle.cml_scan.specs.Scan.{offers_of}
use Rattle.cml_objects.specs.declared.lane.PartnerThreads.TheVariants.{Others, Above}
use Rattle.cml_objects.specs.Pairings.{one_lane}
use Rattle.cml_index.specs.declared.slot.Slot.TheVariants.{Side}
use Rattle.cml_index.specs.Slots.{lane_of}
use Rattle.cml_index.specs.Heads.{met_among}
use Rattle.cml_index.specs.Posts.{slot_of}
use Rattle.cml_index.proofs.Parted.{lane-ascends}
use Rattle.cml_index.proofs.counts.count_on.Goals as goal

pub count_below-requires : goal.count_below-requires
count_below-requires c =
    let slot = Side true c.args.object in
    let there = c.in-Some.ensures ∙ c.requires.placed slot in
    subst (Ascends before) (sym there) (lane-ascends slot_of slot c.args.core.now.entries.items c.requires.sorted)

pub count_beside-requires : goal.count_beside-requires
count_beside-requires c = subst (Ascends before) (sym (c.requires.placed (Side false c.args.object))) (lane-ascends slot_of (Side false c.args.object) c.args.core.now.entries.items c.requires.sorted)

pub returns-else-one_lane-clause-count : goal.returns-else-one_lane-clause-count
returns-else-one_lane-clause-count c =
    let object = c.args.object in
    let os = offers_of c.args.core.now.entries.items in
    let there = c.in-Some.ensures ∙ c.requires.placed (Side true object) in
    let kind : one_lane object.kind ≡ false = sym c.one_lane.ensures ∙ c.if-one_lane.false in
    c.count_beside.ensures.count
    ∙ ap (λ ps. length (met_among Others ps c.in-Some.heads.now.places)) (c.requires.placed (Side false object))
    ∙ ap (λ ps. length (met_among Others (lane_of slot_of (Side false object) os) ps)) there
    ∙ sym (ap (λ b. length (met_among (λ tid. cond b (Above tid) (Others tid)) (lane_of slot_of (Side b object) os) (lane_of slot_of (Side true object) os))) kind)
