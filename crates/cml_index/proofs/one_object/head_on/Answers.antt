use Rattle.std.proofs.Common.{rules, ◌≡◌, ◌<◌, true, false, cond, length, ap, sym, subst, ◌∙◌}
use Rattle.std.specs.Prelude.{slice_get}
use Rattle.cml_scan.specs.Order.{Ascends, before}
use Rattle.cml_scan.specs.Scan.{offers_of}
use Rattle.cml_objects.specs.declared.lane.PartnerThreads.TheVariants.{Others, Above}
use Rattle.cml_objects.specs.Pairings.{one_lane}
use Rattle.cml_index.specs.declared.slot.Slot.TheVariants.{Side}
use Rattle.cml_index.specs.Slots.{lane_at, lane_of}
use Rattle.cml_index.specs.Heads.{met_among, heads_on}
use Rattle.cml_index.specs.Posts.{slot_of}
use Rattle.cml_index.proofs.Parted.{lane-ascends}
use Rattle.cml_index.proofs.one_object.head_on.Goals as goal

pub head_below-requires-clause-sorted : goal.head_below-requires-clause-sorted
head_below-requires-clause-sorted c =
    let slot = Side true c.args.object in
    let there = c.in-Some.ensures ∙ c.requires.indexed.placed slot in
    subst (Ascends before) (sym there) (lane-ascends slot_of slot c.args.core.now.entries.items c.requires.indexed.sorted)

pub head_in-requires-clause-within : goal.head_in-requires-clause-within
head_in-requires-clause-within c =
    let object = c.args.object in
    let os = offers_of c.args.core.now.entries.items in
    let lanes = c.args.core.now.lanes in
    let hs = c.in-Some.heads.now.places in
    let there = c.in-Some.ensures ∙ c.requires.indexed.placed (Side true object) in
    let kind : one_lane object.kind ≡ false = sym c.one_lane.ensures ∙ c.if-one_lane.false in
    let same : met_among Others (lane_at lanes (Side false object)) hs
    ≡ heads_on os object = ap (λ ps. met_among Others ps hs) (c.requires.indexed.placed (Side false object))
    ∙ ap (λ ps. met_among Others (lane_of slot_of (Side false object) os) ps) there
    ∙ sym (ap (λ b. met_among (λ tid. cond b (Above tid) (Others tid)) (lane_of slot_of (Side b object) os) (lane_of slot_of (Side true object) os)) kind) in
    subst (λ qs. c.args.k < length qs) (sym same) c.requires.within

pub returns-else-one_lane : goal.returns-else-one_lane
returns-else-one_lane c = record {
  found = record {
    value =
        let object = c.args.object in
        let os = offers_of c.args.core.now.entries.items in
        let lanes = c.args.core.now.lanes in
        let hs = c.in-Some.heads.now.places in
        let there = c.in-Some.ensures ∙ c.requires.indexed.placed (Side true object) in
        let kind : one_lane object.kind ≡ false = sym c.one_lane.ensures ∙ c.if-one_lane.false in
        let same : met_among Others (lane_at lanes (Side false object)) hs
        ≡ heads_on os object = ap (λ ps. met_among Others ps hs) (c.requires.indexed.placed (Side false object))
        ∙ ap (λ ps. met_among Others (lane_of slot_of (Side false object) os) ps) there
        ∙ sym (ap (λ b. met_among (λ tid. cond b (Above tid) (Others tid)) (lane_of slot_of (Side b object) os) (lane_of slot_of (Side true object) os)) kind) in
        ap (λ qs. slice_get qs c.args.k) (sym same) ∙ c.head_in.ensures.found.value;
    early = search rules;
  };
}
