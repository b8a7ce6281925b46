use Rattle.std.proofs.Common.{◌≡◌, ◌∙◌, true, false, [], length, ap, sym, subst, arith}
use Rattle.cml_scan.specs.Order.{Ascends, before}
use Rattle.cml_objects.specs.declared.lane.PartnerThreads.TheVariants.{Others}
use Rattle.cml_index.specs.declared.slot.Slot.TheVariants.{Side}
use Rattle.cml_index.specs.Slots.{lane_at}
use Rattle.cml_index.specs.Heads.{met_among}
use Rattle.cml_index.specs.Posts.{slot_of}
use Rattle.cml_index.proofs.Beside.{none_among}
use Rattle.cml_index.proofs.Parted.{lane-ascends}
use Rattle.cml_index.proofs.OneObject.{some_there}
use Rattle.cml_index.proofs.one_object.head_in.Goals as goal

pub head_beside-requires-clause-heads : goal.head_beside-requires-clause-heads
head_beside-requires-clause-heads c = subst (Ascends before) (sym c.requires.there) (lane-ascends slot_of (Side true c.args.object) c.args.core.now.entries.items c.requires.indexed.sorted)

pub head_beside-requires-clause-sorted : goal.head_beside-requires-clause-sorted
head_beside-requires-clause-sorted c =
    let slot = Side false c.args.object in
    let there = c.in-Some.ensures ∙ c.requires.indexed.placed slot in
    subst (Ascends before) (sym there) (lane-ascends slot_of slot c.args.core.now.entries.items c.requires.indexed.sorted)

pub head_beside-requires-clause-some : goal.head_beside-requires-clause-some
head_beside-requires-clause-some c =
    let lane = lane_at c.args.core.now.lanes (Side false c.args.object) in
    let same : c.in-Some.others.now.places ≡ lane = c.in-Some.ensures in
    let there = some_there lane c.args.heads.now.places c.args.k c.requires.within in
    let long = ap length same in
    omega (arith, there, long)

pub unreachable-requires : goal.unreachable-requires
unreachable-requires c =
    let lanes = c.args.core.now.lanes in
    let slot = Side false c.args.object in
    let empty : lane_at lanes slot ≡ [] = sym c.in-None.ensures in
    let few : length (met_among Others (lane_at lanes slot) c.args.heads.now.places) ≡ 0 = none_among Others (lane_at lanes slot) c.args.heads.now.places (ap length empty) in
    omega (arith, few, c.requires.within)
