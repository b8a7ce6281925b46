use Rattle.std.proofs.Common.{◌≡◌, ◌∷◌, [], refl, ℕ, true, false, ◌≤◌, ◌+◌, ◌∙◌, length, map, ap, sym, subst, arith}
use Rattle.std.specs.List.{filter}
use Rattle.cml_value.specs.Group.{bases}
use Rattle.cml_scan.specs.World.{PlainEntry}
use Rattle.cml_scan.specs.Scan.{offers_of}
use Rattle.cml_scan.specs.Table.{with_entry}
use Rattle.cml_scan.specs.Light.{lit_by}
use Rattle.cml_scan.specs.Order.{IsSorted, Every, Ascends, before}
use Rattle.cml_scan.proofs.Ordered.{sorted_with}
use Rattle.cml_objects.specs.Lanes.{is_others, with_run}
use Rattle.std.specs.Prelude.{List, Result, Ok, Err, OnErr}
use Rattle.cml_index.specs.declared.slot.Slot.{Slot}
use Rattle.cml_index.specs.declared.slot.Slot.TheVariants.{Side}
use Rattle.cml_index.specs.Slots.{slot_in, lane_at, lane_of, slot_leaves, has_slot}
use Rattle.cml_index.proofs.Walks.{no_leaves, with_none}
use Rattle.cml_objects.specs.Pairings.{one_lane}
use Rattle.cml_index.specs.Live.{may_meet}
use Rattle.cml_index.proofs.Kept.{no_sides, meet_more, with_longer}
use Rattle.cml_index.specs.Crossing.{crosses}
use Rattle.cml_index.proofs.Counted.{one_if}
use Rattle.cml_index.proofs.Crossed.{came_those, one_side}
use Rattle.cml_index.proofs.Lit.{still_indexed}
use Rattle.cml_index.proofs.Alone.{lone_post, lone_scopes}
use Rattle.cml_index.specs.Posts as spec
use Rattle.cml_index.specs.Waits.{lit_wait}
use Rattle.cml_index.proofs.Waits.{waits_lit}
use Rattle.cml_index.proofs.Parted.{all_apart, lane_others, lane-ascends, came_lane, came_count, came_all, nacks_with, filter_fewer}
use Rattle.cml_index.proofs.state.IndexState.enter_lone.Goals as goal

pub overflow_add-self-2 : goal.overflow_add-self-2
overflow_add-self-2 c =
    let es = c.args.self.now.entries.items in
    let lit = lit_by (spec.told c.args.self.now.flags.entries) in
    let count : c.count_lone-lit.result ≡ length (filter lit (bases c.args.group.now)) = c.count_lone-lit.ensures.count
    ∙ ap (λ ws. length (filter (lit_wait (spec.told c.args.self.now.flags.entries)) ws)) (lone_post c.args.group.now c.args.wait c.requires.lone).same
    ∙ waits_lit (spec.told c.args.self.now.flags.entries) (bases c.args.group.now) in
    let a : length (filter lit (bases c.args.group.now)) ≤ length (bases c.args.group.now) = filter_fewer lit (bases c.args.group.now) in
    let b : length (spec.lit_offers c.args.self.now.flags.entries es) ≤ length (offers_of es) = filter_fewer (λ (o : Rattle.cml_scan.specs.Scan.PlainOffer). lit o.base) (offers_of es) in
    let many : length (c.args.wait ∷ []) ≡ length (bases c.args.group.now) = (lone_post c.args.group.now c.args.wait c.requires.lone).many in
    omega (arith, count, a, b, many, c.requires.indexed.all, c.requires.indexed.alone, c.requires.small)

pub come_lone-requires-clause-sorted : goal.come_lone-requires-clause-sorted
come_lone-requires-clause-sorted c k = subst (Ascends before) (sym (c.requires.indexed.placed k)) (lane-ascends spec.slot_of k c.args.self.now.entries.items c.requires.indexed.sorted)

pub come_lone-requires-clause-new : goal.come_lone-requires-clause-new
come_lone-requires-clause-new c k =
    let apart = all_apart c.args.tid.0 c.args.self.now.entries.items c.requires.new in
    subst (Every (is_others c.args.tid)) (sym (c.requires.indexed.placed k)) (lane_others spec.slot_of k c.args.tid c.args.self.now.entries.items apart)

pub add_lone-requires-clause-was : goal.add_lone-requires-clause-was
add_lone-requires-clause-was c n e =
    let es = c.args.self.now.entries.items in
    let lanes = c.args.self.now.lanes in
    let after = c.come_lone.new.self in
    let tid = c.args.tid in
    let apart = all_apart c.args.tid.0 es c.requires.new in
    let up : (k : Slot) → Ascends before (lane_at lanes k) = λ k. subst (Ascends before) (sym (c.requires.indexed.placed k)) (lane-ascends spec.slot_of k es c.requires.indexed.sorted) in
    let new_ : (k : Slot) → Every (is_others tid) (lane_at lanes k) = λ k. subst (Every (is_others tid)) (sym (c.requires.indexed.placed k)) (lane_others spec.slot_of k tid es apart) in
    let same : (k : Slot) → has_slot k (map slot_in (c.args.wait ∷ [])) ≡ false → lane_at after k ≡ lane_at lanes k = λ k off.
    c.in_ok-come_lone.ensures.lanes k ∙ ap (λ ls. with_run tid ls (lane_at lanes k))
    (no_leaves k 0 (map slot_in (c.args.wait ∷ [])) off)
    ∙ with_none tid (lane_at lanes k) (up k) (new_ k) in
    let off = no_sides n (map slot_in (c.args.wait ∷ [])) e in
    c.requires.indexed.sides n ∙ ap (λ ps. may_meet (one_lane n.kind) (length ps)
    (length (lane_at lanes (Side false n)))) (sym (same (Side true n) off.0))
    ∙ ap (λ ps. may_meet (one_lane n.kind) (length (lane_at after (Side true n))) (length ps))
    (sym (same (Side false n) off.1))

pub add_lone-requires-clause-under : goal.add_lone-requires-clause-under
add_lone-requires-clause-under c n dark =
    let es = c.args.self.now.entries.items in
    let lanes = c.args.self.now.lanes in
    let after = c.come_lone.new.self in
    let tid = c.args.tid in
    let ls : (k : Slot) → List ℕ = λ k. slot_leaves k 0 (map slot_in (c.args.wait ∷ [])) in
    let apart = all_apart c.args.tid.0 es c.requires.new in
    let up : (k : Slot) → Ascends before (lane_at lanes k) = λ k. subst (Ascends before) (sym (c.requires.indexed.placed k)) (lane-ascends spec.slot_of k es c.requires.indexed.sorted) in
    let new_ : (k : Slot) → Every (is_others tid) (lane_at lanes k) = λ k. subst (Every (is_others tid)) (sym (c.requires.indexed.placed k)) (lane_others spec.slot_of k tid es apart) in
    let more : (k : Slot) → length (lane_at lanes k) ≤ length (lane_at after k) = λ k.
    let few : length (lane_at lanes k) ≤ length (with_run tid (ls k) (lane_at lanes k)) = with_longer tid (ls k) (lane_at lanes k) (up k) (new_ k) in
    let same : length (lane_at after k) ≡ length (with_run tid (ls k) (lane_at lanes k)) = ap length (c.in_ok-come_lone.ensures.lanes k) in
    omega (arith, few, same) in
    c.requires.indexed.sides n ∙ meet_more (one_lane n.kind) (length (lane_at lanes (Side true n)))
    (length (lane_at lanes (Side false n))) (length (lane_at after (Side true n)))
    (length (lane_at after (Side false n))) (more (Side true n)) (more (Side false n)) dark

pub add_lone-requires-clause-counted : goal.add_lone-requires-clause-counted
add_lone-requires-clause-counted c n e on two =
    let es = c.args.self.now.entries.items in
    let lanes = c.args.self.now.lanes in
    let after = c.come_lone.new.self in
    let tid = c.args.tid in
    let k = Side true n in
    let apart = all_apart c.args.tid.0 es c.requires.new in
    let up : Ascends before (lane_at lanes k) = subst (Ascends before) (sym (c.requires.indexed.placed k)) (lane-ascends spec.slot_of k es c.requires.indexed.sorted) in
    let new_ : Every (is_others tid) (lane_at lanes k) = subst (Every (is_others tid)) (sym (c.requires.indexed.placed k)) (lane_others spec.slot_of k tid es apart) in
    let off = no_sides n (map slot_in (c.args.wait ∷ [])) e in
    let same : lane_at after k ≡ lane_at lanes k =
    c.in_ok-come_lone.ensures.lanes k ∙ ap (λ ls. with_run tid ls (lane_at lanes k))
    (no_leaves k 0 (map slot_in (c.args.wait ∷ [])) off.0)
    ∙ with_none tid (lane_at lanes k) up new_ in
    c.requires.indexed.counted n on two ∙ ap length (sym same)

pub returns-clause-came : goal.returns-clause-came
returns-clause-came c = record {
  entries = c.put.ensures ∙ ap (λ x. with_entry x c.args.self.now.entries.items) c.lone.ensures;
  leaves = ap (λ n. c.args.self.now.leaves + n) (lone_post c.args.group.now c.args.wait c.requires.lone).many;
  flags = refl;
}

pub returns-clause-indexed : goal.returns-clause-indexed
returns-clause-indexed c =
    let es = c.args.self.now.entries.items in
    let e : PlainEntry = record { thread = c.args.tid.0; group = c.args.group.now } in
    let after : c.put.new.self.items ≡ with_entry e es = c.put.ensures ∙ ap (λ x. with_entry x es) c.lone.ensures in
    let apart = all_apart e.thread es c.requires.new in
    let lit = lit_by (spec.told c.args.self.now.flags.entries) in
    let count : length (c.args.wait ∷ []) ≡ length (bases e.group) = (lone_post c.args.group.now c.args.wait c.requires.lone).many in
    let count_lit : c.count_lone-lit.result ≡ length (filter lit (bases e.group)) = c.count_lone-lit.ensures.count
    ∙ ap (λ ws. length (filter (lit_wait (spec.told c.args.self.now.flags.entries)) ws)) (lone_post c.args.group.now c.args.wait c.requires.lone).same
    ∙ waits_lit (spec.told c.args.self.now.flags.entries) (bases c.args.group.now) in
    let many = came_all e es c.requires.indexed.sorted apart in
    let many_lit = came_count lit e es c.requires.indexed.sorted apart in
    let many_cross = came_those spec.is_crosser e es c.requires.indexed.sorted apart in
    let crossing : 0 ≡ one_if (spec.is_crosser e) 1 = ap (λ b. one_if b 1) (one_side (c.args.wait ∷ []) (omega arith))
    ∙ ap (λ ss. one_if (crosses ss) 1) (lone_post c.args.group.now c.args.wait c.requires.lone).slots in
    let now_cross : length (filter spec.is_crosser c.put.new.self.items) ≡ length (filter spec.is_crosser (with_entry e es)) = ap (λ xs. length (filter spec.is_crosser xs)) after in
    let now : length (offers_of c.put.new.self.items) ≡ length (offers_of (with_entry e es)) = ap (λ xs. length (offers_of xs)) after in
    let now_lit : length (spec.lit_offers c.args.self.now.flags.entries c.put.new.self.items)
    ≡ length (filter (λ o. lit o.base) (offers_of (with_entry e es))) = ap
    (λ xs. length (filter (λ o. lit o.base) (offers_of xs))) after in
    record {
      sorted = subst IsSorted (sym after) (sorted_with e es c.requires.indexed.sorted);
      placed = λ k. c.in_ok-come_lone.ensures.lanes k
          ∙ ap (λ ls. with_run c.args.tid ls (lane_at c.args.self.now.lanes k)) (ap (slot_leaves k 0) (lone_post c.args.group.now c.args.wait c.requires.lone).slots)
          ∙ ap (with_run c.args.tid (slot_leaves k 0 (map spec.slot_of (bases e.group)))) (c.requires.indexed.placed k)
          ∙ came_lane spec.slot_of k c.args.tid e es refl ∙ ap (λ xs. lane_of spec.slot_of k (offers_of xs)) (sym after);
      sides = c.add_lone.ensures.live;
      counted = c.add_lone.ensures.counted;
      still = λ k. c.come_lone.ensures.going k ∙ c.requires.indexed.still k;
      all = omega (arith, many, count, now, c.requires.indexed.all);
      cross = omega (arith, many_cross, crossing, now_cross, c.requires.indexed.cross);
      alone = omega (arith, many_lit, count_lit, now_lit, c.requires.indexed.alone);
      named = subst (λ xs. Every (λ k. spec.is_named c.args.self.now.flags.entries (spec.slot_of_nack k))
          (spec.nacks_in xs)) (sym after)
          (nacks_with (λ k. spec.is_named c.args.self.now.flags.entries (spec.slot_of_nack k)) e es
          c.requires.indexed.named (subst (Every (λ k. spec.is_named c.args.self.now.flags.entries (spec.slot_of_nack k))) (lone_scopes c.args.group.now c.args.wait c.requires.lone) tt));
    }

pub put-requires-clause-new : goal.put-requires-clause-new
put-requires-clause-new c = rw (c.lone.ensures) c.requires.new

pub returns-clause-idle : goal.returns-clause-idle
returns-clause-idle c k = c.come_lone.ensures.late k ∙ c.requires.idle k

pub returns-clause-cost : goal.returns-clause-cost
returns-clause-cost c digits few =
    let one = c.count_lone-lit.ensures.cost in
    let two = c.come_lone.ensures.cost digits few in
    omega (arith, one, two)

-- what holds anyway holds where memory ran out
anyway : {A E X : Type 0} (r : Result A E) → X → OnErr r X
anyway (Ok a) x = tt
anyway (Err e) x = x

pub returns-in_err-come_lone-clause-same : goal.returns-in_err-come_lone-clause-same
returns-in_err-come_lone-clause-same c = anyway c.from_residual.result (record { entries = refl; leaves = refl; lanes = c.in_err-come_lone.ensures.none; told = λ l. refl })

pub returns-in_err-come_lone-clause-indexed : goal.returns-in_err-come_lone-clause-indexed
returns-in_err-come_lone-clause-indexed c =
    still_indexed c.args.self.now.entries.items c.args.self.now.lanes c.come_lone.new.self c.args.self.now.live c.args.self.now.live
    c.args.self.now.flags.entries c.args.self.now.flags.entries c.args.self.now.leaves c.args.self.now.crossing c.args.self.now.lit
    c.requires.indexed c.in_err-come_lone.ensures.none c.come_lone.ensures.going (λ n. refl) (λ n. refl) (record { same = λ l. refl; named = λ k h. h })

pub returns-in_err-come_lone-clause-idle : goal.returns-in_err-come_lone-clause-idle
returns-in_err-come_lone-clause-idle c k = c.come_lone.ensures.late k ∙ c.requires.idle k
