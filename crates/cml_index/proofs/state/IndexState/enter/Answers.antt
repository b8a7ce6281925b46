use Rattle.std.proofs.Common.{rules, ◌≡◌, ℕ, true, false, ◌≤◌, ◌+◌, ◌*◌, ◌∙◌, length, nat_eq, not, map, ap, sym, subst, arith}
use Rattle.std.specs.List.{filter}
use Rattle.cml_value.specs.Group.{bases}
use Rattle.cml_scan.specs.World.{PlainEntry}
use Rattle.cml_scan.specs.Scan.{offers_of}
use Rattle.cml_scan.specs.Table.{with_entry}
use Rattle.cml_scan.specs.Light.{lit_by}
use Rattle.cml_scan.specs.Order.{IsSorted, Every, Ascends, before}
use Rattle.cml_scan.proofs.Ordered.{sorted_with}
use Rattle.cml_objects.specs.Lanes.{is_others, with_run}
use Rattle.std.specs.Prelude.{List}
use Rattle.cml_index.specs.declared.slot.Slot.{Slot}
use Rattle.cml_index.specs.declared.slot.Slot.TheVariants.{Side}
use Rattle.cml_index.specs.Slots.{slot_in, lane_at, lane_of, slot_leaves, has_slot}
use Rattle.cml_index.proofs.Walks.{no_leaves, with_none}
use Rattle.cml_objects.specs.Pairings.{one_lane}
use Rattle.cml_index.specs.Live.{may_meet, have_side}
use Rattle.cml_index.proofs.Kept.{no_sides, meet_more, with_longer}
use Rattle.cml_index.specs.Crossing.{crosses}
use Rattle.cml_index.proofs.Counted.{one_if}
use Rattle.cml_index.proofs.Crossed.{cross_leaf, crossers_few, came_those}
use Rattle.cml_index.specs.Posts as spec
use Rattle.cml_index.specs.Waits.{lit_wait}
use Rattle.cml_index.proofs.Waits.{waits_lit}
use Rattle.cml_index.proofs.Parted.{all_apart, lane_others, lane-ascends, came_lane, came_count, came_all, nacks_with, move_cost, filter_fewer}
use Rattle.cml_index.proofs.state.IndexState.enter.Goals as goal

pub overflow_add-self-2 : goal.overflow_add-self-2
overflow_add-self-2 c =
    let es = c.args.self.now.entries.items in
    let lit = lit_by (spec.told c.args.self.now.flags.entries) in
    let count : c.count_lit-lit.result ≡ length (filter lit (bases c.args.entry.group)) = c.count_lit-lit.ensures.count
    ∙ ap (λ ws. length (filter (lit_wait (spec.told c.args.self.now.flags.entries)) ws)) c.waits.ensures.same
    ∙ waits_lit (spec.told c.args.self.now.flags.entries) (bases c.args.entry.group) in
    let a : length (filter lit (bases c.args.entry.group)) ≤ length (bases c.args.entry.group) = filter_fewer lit (bases c.args.entry.group) in
    let b : length (spec.lit_offers c.args.self.now.flags.entries es) ≤ length (offers_of es) = filter_fewer (λ (o : Rattle.cml_scan.specs.Scan.PlainOffer). lit o.base) (offers_of es) in
    omega (arith, count, a, b, c.requires.indexed.all, c.requires.indexed.alone, c.requires.room.small)

pub come-requires-clause-sorted : goal.come-requires-clause-sorted
come-requires-clause-sorted c k = subst (Ascends before) (sym (c.requires.indexed.placed k)) (lane-ascends spec.slot_of k c.args.self.now.entries.items c.requires.indexed.sorted)

pub come-requires-clause-new : goal.come-requires-clause-new
come-requires-clause-new c k =
    let apart = all_apart c.args.entry.thread c.args.self.now.entries.items c.requires.new in
    let here = subst (λ t. Every (λ (e : PlainEntry). not (nat_eq t e.thread)) c.args.self.now.entries.items) (sym c.tid.ensures) apart in
    subst (Every (is_others c.tid.result)) (sym (c.requires.indexed.placed k)) (lane_others spec.slot_of k c.tid.result c.args.self.now.entries.items here)

pub come-requires-clause-late : goal.come-requires-clause-late
come-requires-clause-late c k = c.requires.room.late k ∙ ap (slot_leaves k 0) (sym c.waits-3.ensures.slots)

pub add_all-requires-clause-there : goal.add_all-requires-clause-there
add_all-requires-clause-there c n e = c.requires.room.places n (sym (ap (have_side n) c.waits-4.ensures.slots) ∙ e)

pub add_all-requires-clause-was : goal.add_all-requires-clause-was
add_all-requires-clause-was c n e =
    let es = c.args.self.now.entries.items in
    let lanes = c.args.self.now.lanes in
    let after = c.come.new.self in
    let tid = c.tid.result in
    let apart = all_apart c.args.entry.thread es c.requires.new in
    let away = subst (λ t. Every (λ (e : PlainEntry). not (nat_eq t e.thread)) es) (sym c.tid.ensures) apart in
    let up : (k : Slot) → Ascends before (lane_at lanes k) = λ k. subst (Ascends before) (sym (c.requires.indexed.placed k)) (lane-ascends spec.slot_of k es c.requires.indexed.sorted) in
    let new_ : (k : Slot) → Every (is_others tid) (lane_at lanes k) = λ k. subst (Every (is_others tid)) (sym (c.requires.indexed.placed k)) (lane_others spec.slot_of k tid es away) in
    let same_slots : map slot_in c.waits-3.result.now ≡ map slot_in c.waits-4.result.now = c.waits-3.ensures.slots ∙ sym c.waits-4.ensures.slots in
    let same : (k : Slot) → has_slot k (map slot_in c.waits-4.result.now) ≡ false → lane_at after k ≡ lane_at lanes k = λ k off.
    c.come.ensures.lanes k ∙ ap (λ ls. with_run tid ls (lane_at lanes k))
    (ap (slot_leaves k 0) same_slots ∙ no_leaves k 0 (map slot_in c.waits-4.result.now) off)
    ∙ with_none tid (lane_at lanes k) (up k) (new_ k) in
    let off = no_sides n (map slot_in c.waits-4.result.now) e in
    c.requires.indexed.sides n ∙ ap (λ ps. may_meet (one_lane n.kind) (length ps)
    (length (lane_at lanes (Side false n)))) (sym (same (Side true n) off.0))
    ∙ ap (λ ps. may_meet (one_lane n.kind) (length (lane_at after (Side true n))) (length ps))
    (sym (same (Side false n) off.1))

pub add_all-requires-clause-under : goal.add_all-requires-clause-under
add_all-requires-clause-under c n dark =
    let es = c.args.self.now.entries.items in
    let lanes = c.args.self.now.lanes in
    let after = c.come.new.self in
    let tid = c.tid.result in
    let ls : (k : Slot) → List ℕ = λ k. slot_leaves k 0 (map slot_in c.waits-3.result.now) in
    let apart = all_apart c.args.entry.thread es c.requires.new in
    let away = subst (λ t. Every (λ (e : PlainEntry). not (nat_eq t e.thread)) es) (sym c.tid.ensures) apart in
    let up : (k : Slot) → Ascends before (lane_at lanes k) = λ k. subst (Ascends before) (sym (c.requires.indexed.placed k)) (lane-ascends spec.slot_of k es c.requires.indexed.sorted) in
    let new_ : (k : Slot) → Every (is_others tid) (lane_at lanes k) = λ k. subst (Every (is_others tid)) (sym (c.requires.indexed.placed k)) (lane_others spec.slot_of k tid es away) in
    let more : (k : Slot) → length (lane_at lanes k) ≤ length (lane_at after k) = λ k.
    let few : length (lane_at lanes k) ≤ length (with_run tid (ls k) (lane_at lanes k)) = with_longer tid (ls k) (lane_at lanes k) (up k) (new_ k) in
    let same : length (lane_at after k) ≡ length (with_run tid (ls k) (lane_at lanes k)) = ap length (c.come.ensures.lanes k) in
    omega (arith, few, same) in
    c.requires.indexed.sides n ∙ meet_more (one_lane n.kind) (length (lane_at lanes (Side true n)))
    (length (lane_at lanes (Side false n))) (length (lane_at after (Side true n)))
    (length (lane_at after (Side false n))) (more (Side true n)) (more (Side false n)) dark

pub add_all-requires-clause-counted : goal.add_all-requires-clause-counted
add_all-requires-clause-counted c n e on two =
    let es = c.args.self.now.entries.items in
    let lanes = c.args.self.now.lanes in
    let after = c.come.new.self in
    let tid = c.tid.result in
    let k = Side true n in
    let apart = all_apart c.args.entry.thread es c.requires.new in
    let away = subst (λ t. Every (λ (e : PlainEntry). not (nat_eq t e.thread)) es) (sym c.tid.ensures) apart in
    let up : Ascends before (lane_at lanes k) = subst (Ascends before) (sym (c.requires.indexed.placed k)) (lane-ascends spec.slot_of k es c.requires.indexed.sorted) in
    let new_ : Every (is_others tid) (lane_at lanes k) = subst (Every (is_others tid)) (sym (c.requires.indexed.placed k)) (lane_others spec.slot_of k tid es away) in
    let same_slots : map slot_in c.waits-3.result.now ≡ map slot_in c.waits-4.result.now = c.waits-3.ensures.slots ∙ sym c.waits-4.ensures.slots in
    let off = no_sides n (map slot_in c.waits-4.result.now) e in
    let same : lane_at after k ≡ lane_at lanes k =
    c.come.ensures.lanes k ∙ ap (λ ls. with_run tid ls (lane_at lanes k))
    (ap (slot_leaves k 0) same_slots ∙ no_leaves k 0 (map slot_in c.waits-4.result.now) off.0)
    ∙ with_none tid (lane_at lanes k) up new_ in
    c.requires.indexed.counted n on two ∙ ap length (sym same)

pub overflow_add-self-3 : goal.overflow_add-self-3
overflow_add-self-3 c =
    let es = c.args.self.now.entries.items in
    let one : c.crossers.result ≡ one_if (spec.is_crosser c.args.entry) 1 = c.crossers.ensures ∙ ap (λ ss. one_if (crosses ss) 1) c.waits-5.ensures.slots in
    let leaf = cross_leaf c.args.entry in
    let few = crossers_few es in
    omega (arith, one, leaf, few, c.requires.indexed.all, c.requires.indexed.cross, c.requires.room.small)

pub returns-clause-came : goal.returns-clause-came
returns-clause-came c = record { entries = c.put.ensures; leaves = search rules; flags = search rules }

pub returns-clause-indexed : goal.returns-clause-indexed
returns-clause-indexed c =
    let es = c.args.self.now.entries.items in
    let e = c.args.entry in
    let after : c.put.new.self.items ≡ with_entry e es = c.put.ensures in
    let apart = all_apart e.thread es c.requires.new in
    let lit = lit_by (spec.told c.args.self.now.flags.entries) in
    let count : length c.waits-2.result.now ≡ length (bases e.group) = c.waits-2.ensures.many in
    let count_lit : c.count_lit-lit.result ≡ length (filter lit (bases e.group)) = c.count_lit-lit.ensures.count
    ∙ ap (λ ws. length (filter (lit_wait (spec.told c.args.self.now.flags.entries)) ws)) c.waits.ensures.same
    ∙ waits_lit (spec.told c.args.self.now.flags.entries) (bases c.args.entry.group) in
    let many = came_all e es c.requires.indexed.sorted apart in
    let many_lit = came_count lit e es c.requires.indexed.sorted apart in
    let many_cross = came_those spec.is_crosser e es c.requires.indexed.sorted apart in
    let crossing : c.crossers.result ≡ one_if (spec.is_crosser e) 1 = c.crossers.ensures ∙ ap (λ ss. one_if (crosses ss) 1) c.waits-5.ensures.slots in
    let now_cross : length (filter spec.is_crosser c.put.new.self.items) ≡ length (filter spec.is_crosser (with_entry e es)) = ap (λ xs. length (filter spec.is_crosser xs)) after in
    let now : length (offers_of c.put.new.self.items) ≡ length (offers_of (with_entry e es)) = ap (λ xs. length (offers_of xs)) after in
    let now_lit : length (spec.lit_offers c.args.self.now.flags.entries c.put.new.self.items)
    ≡ length (filter (λ o. lit o.base) (offers_of (with_entry e es))) = ap
    (λ xs. length (filter (λ o. lit o.base) (offers_of xs))) after in
    record {
      sorted = subst IsSorted (sym after) (sorted_with e es c.requires.indexed.sorted);
      placed = λ k. c.come.ensures.lanes k ∙ ap (λ ls. with_run c.tid.result ls (lane_at c.args.self.now.lanes k)) (ap (slot_leaves k 0) c.waits-3.ensures.slots)
          ∙ ap (with_run c.tid.result (slot_leaves k 0 (map spec.slot_of (bases e.group)))) (c.requires.indexed.placed k)
          ∙ came_lane spec.slot_of k c.tid.result e es c.tid.ensures ∙ ap (λ xs. lane_of spec.slot_of k (offers_of xs)) (sym after);
      sides = c.add_all.ensures.live;
      counted = c.add_all.ensures.counted;
      still = λ k. c.come.ensures.going k ∙ c.requires.indexed.still k;
      all = omega (arith, many, count, now, c.requires.indexed.all);
      cross = omega (arith, many_cross, crossing, now_cross, c.requires.indexed.cross);
      alone = omega (arith, many_lit, count_lit, now_lit, c.requires.indexed.alone);
      named = subst (λ xs. Every (λ k. spec.is_named c.args.self.now.flags.entries (spec.slot_of_nack k))
          (spec.nacks_in xs)) (sym after)
          (nacks_with (λ k. spec.is_named c.args.self.now.flags.entries (spec.slot_of_nack k)) e es
          c.requires.indexed.named c.requires.room.named);
    }

pub returns-clause-cost : goal.returns-clause-cost
returns-clause-cost c digits few =
    let count : length c.waits.result.now ≡ length (bases c.args.entry.group) = c.waits.ensures.many in
    let one : c.count_lit-lit.new.tally ≤ c.args.tally.now + 2 * length (bases c.args.entry.group) = omega (arith, c.count_lit-lit.ensures.cost, count) in
    let two = c.come.ensures.cost digits few in
    let sum = move_cost c.args.tally.now c.count_lit-lit.new.tally c.come.new.tally (length (bases c.args.entry.group)) _ 0 digits one two (omega (arith, c.waits-3.ensures.many)) in
    omega (arith, sum)
