use Rattle.std.proofs.Common.{rules, ◌≡◌, true, false, ◌≤◌, ◌-◌, ◌+◌, ◌*◌, ◌∙◌, [], ◌∷◌, length, map, nat_eq, not, ap, sym, subst, arith}
use Rattle.std.specs.List.{filter}
use Rattle.cml_value.specs.Group.{bases}
use Rattle.cml_scan.specs.Scan.{offers_of}
use Rattle.cml_scan.specs.Table.{without}
use Rattle.cml_scan.specs.Light.{lit_by}
use Rattle.cml_scan.specs.Order.{IsSorted, Every}
use Rattle.cml_scan.proofs.Ordered.{sorted_without}
use Rattle.cml_objects.specs.Lanes.{is_own, is_others, others}
use Rattle.cml_index.specs.declared.slot.Slot.{Slot}
use Rattle.cml_index.specs.declared.slot.Slot.TheVariants.{Side}
use Rattle.cml_index.specs.Slots.{slot_in, lane_at, lane_of, slot_leaves, has_slot}
use Rattle.cml_index.proofs.Walks.{no_leaves, others_all}
use Rattle.cml_objects.specs.Pairings.{one_lane}
use Rattle.cml_index.specs.Live.{may_meet}
use Rattle.cml_index.proofs.Kept.{no_sides, meet_less}
use Rattle.cml_index.specs.Crossing.{crosses}
use Rattle.cml_index.proofs.Counted.{one_if}
use Rattle.cml_index.proofs.Crossed.{left_those}
use Rattle.cml_index.specs.Posts as spec
use Rattle.cml_index.specs.Waits.{lit_wait}
use Rattle.cml_index.proofs.Waits.{waits_lit}
use Rattle.cml_index.proofs.Parted.{gone_one, left_lane, left_rest, left_count, left_all, nacks_left, move_cost, filter_fewer, there_any}
use Rattle.cml_index.specs.Seats.{IsEntryOf}
use Rattle.cml_index.proofs.OwnSeat.{none_any}
use Rattle.cml_index.proofs.state.IndexState.leave.Goals as goal

pub unreachable-requires : goal.unreachable-requires
unreachable-requires c =
    let es = c.args.self.now.entries.items in
    let none = c.get.ensures in
    none_any c.args.tid.0 es (subst (IsEntryOf c.args.tid es) c.in_default.is none) (there_any c.args.tid.0 es c.requires.there)

pub count_lit_within-lit-requires : goal.count_lit_within-lit-requires
count_lit_within-lit-requires c =
    let told = spec.told c.args.self.now.flags.entries in
    let es = c.args.self.now.entries.items in
    let d = c.in-Some.entry.now in
    let own : filter (λ e. nat_eq c.args.tid.0 e.thread) es ≡ d ∷ [] = c.in-Some.ensures.1 in
    let many = left_count (lit_by told) c.args.tid.0 es d own in
    let count : length (filter (lit_wait told) c.waits.result.now) ≡ length (filter (lit_by told) (bases d.group)) = ap (λ ws. length (filter (lit_wait told) ws)) c.waits.ensures.same
    ∙ waits_lit told (bases d.group) in
    omega (arith, many, count, c.requires.indexed.alone)

pub overflow_sub-self : goal.overflow_sub-self
overflow_sub-self c =
    let es = c.args.self.now.entries.items in
    let d = c.in-Some.entry.now in
    let own : filter (λ e. nat_eq c.args.tid.0 e.thread) es ≡ d ∷ [] = c.in-Some.ensures.1 in
    let many = left_count (lit_by (spec.told c.args.self.now.flags.entries)) c.args.tid.0 es d own in
    let count : c.count_lit_within-lit.result ≡ length
    (filter (lit_by (spec.told c.args.self.now.flags.entries)) (bases d.group)) = c.count_lit_within-lit.ensures.count
    ∙ ap (λ ws. length (filter (lit_wait (spec.told c.args.self.now.flags.entries)) ws)) c.waits.ensures.same
    ∙ waits_lit (spec.told c.args.self.now.flags.entries) (bases d.group) in
    omega (arith, many, count, c.requires.indexed.alone)

pub overflow_sub-self-2 : goal.overflow_sub-self-2
overflow_sub-self-2 c =
    let es = c.args.self.now.entries.items in
    let d = c.in-Some.entry.now in
    let own : filter (λ e. nat_eq c.args.tid.0 e.thread) es ≡ d ∷ [] = c.in-Some.ensures.1 in
    let many = left_all c.args.tid.0 es d own in
    let count : length c.waits-2.result.now ≡ length (bases d.group) = c.waits-2.ensures.many in
    omega (arith, many, count, c.requires.indexed.all)

pub go-requires-clause-all : goal.go-requires-clause-all
go-requires-clause-all c k =
    let es = c.args.self.now.entries.items in
    let d = c.in-Some.entry.now in
    let own : filter (λ e. nat_eq c.args.tid.0 e.thread) es ≡ d ∷ [] = c.in-Some.ensures.1 in
    let thread : d.thread ≡ c.args.tid.0 = c.in-Some.ensures.0 in
    ap (λ ss. length (slot_leaves k 0 ss)) c.waits-3.ensures.slots ∙ left_lane spec.slot_of k c.args.tid es d own thread
    ∙ ap (λ ps. length (filter (is_own c.args.tid) ps)) (sym (c.requires.indexed.placed k))

pub cut_all-requires-clause-was : goal.cut_all-requires-clause-was
cut_all-requires-clause-was c n e =
    let es = c.args.self.now.entries.items in
    let d = c.in-Some.entry.now in
    let own : filter (λ e. nat_eq c.args.tid.0 e.thread) es ≡ d ∷ [] = c.in-Some.ensures.1 in
    let thread : d.thread ≡ c.args.tid.0 = c.in-Some.ensures.0 in
    let lanes = c.args.self.now.lanes in
    let after = c.go.new.self in
    let ss = map slot_in c.waits-4.result.now in
    let same : (k : Slot) → has_slot k ss ≡ false → lane_at after k ≡ lane_at lanes k = λ k off.
    let zero_ : length (filter (is_own c.args.tid) (lane_at lanes k))
    ≡ 0 = ap (λ ps. length (filter (is_own c.args.tid) ps)) (c.requires.indexed.placed k)
    ∙ sym (left_lane spec.slot_of k c.args.tid es d own thread)
    ∙ ap length (ap (slot_leaves k 0) (sym c.waits-4.ensures.slots) ∙ no_leaves k 0 ss off) in
    c.go.ensures.lanes k ∙ others_all c.args.tid (lane_at lanes k) zero_ in
    let off = no_sides n ss e in
    c.requires.indexed.sides n ∙ ap (λ ps. may_meet (one_lane n.kind) (length ps)
    (length (lane_at lanes (Side false n)))) (sym (same (Side true n) off.0))
    ∙ ap (λ ps. may_meet (one_lane n.kind) (length (lane_at after (Side true n))) (length ps))
    (sym (same (Side false n) off.1))

pub cut_all-requires-clause-over : goal.cut_all-requires-clause-over
cut_all-requires-clause-over c n on =
    let lanes = c.args.self.now.lanes in
    let after = c.go.new.self in
    let fewer : (k : Slot) → length (lane_at after k) ≤ length (lane_at lanes k) = λ k.
    let few : length (others c.args.tid (lane_at lanes k)) ≤ length (lane_at lanes k) = filter_fewer (is_others c.args.tid) (lane_at lanes k) in
    let same : length (lane_at after k) ≡ length (others c.args.tid (lane_at lanes k)) = ap length (c.go.ensures.lanes k) in
    omega (arith, few, same) in
    c.requires.indexed.sides n ∙ meet_less (one_lane n.kind) (length (lane_at lanes (Side true n)))
    (length (lane_at lanes (Side false n))) (length (lane_at after (Side true n)))
    (length (lane_at after (Side false n))) (fewer (Side true n)) (fewer (Side false n)) on

pub cut_all-requires-clause-counted : goal.cut_all-requires-clause-counted
cut_all-requires-clause-counted c n e on two =
    let es = c.args.self.now.entries.items in
    let d = c.in-Some.entry.now in
    let own : filter (λ e. nat_eq c.args.tid.0 e.thread) es ≡ d ∷ [] = c.in-Some.ensures.1 in
    let thread : d.thread ≡ c.args.tid.0 = c.in-Some.ensures.0 in
    let lanes = c.args.self.now.lanes in
    let ss = map slot_in c.waits-4.result.now in
    let k = Side true n in
    let off = no_sides n ss e in
    let zero_ : length (filter (is_own c.args.tid) (lane_at lanes k))
    ≡ 0 = ap (λ ps. length (filter (is_own c.args.tid) ps)) (c.requires.indexed.placed k)
    ∙ sym (left_lane spec.slot_of k c.args.tid es d own thread)
    ∙ ap length (ap (slot_leaves k 0) (sym c.waits-4.ensures.slots) ∙ no_leaves k 0 ss off.0) in
    let same : lane_at c.go.new.self k ≡ lane_at lanes k = c.go.ensures.lanes k ∙ others_all c.args.tid (lane_at lanes k) zero_ in
    c.requires.indexed.counted n on two ∙ ap length (sym same)

pub crossers_within-requires : goal.crossers_within-requires
crossers_within-requires c =
    let es = c.args.self.now.entries.items in
    let d = c.in-Some.entry.now in
    let own : filter (λ e. nat_eq c.args.tid.0 e.thread) es ≡ d ∷ [] = c.in-Some.ensures.1 in
    let many = left_those spec.is_crosser c.args.tid.0 es d own in
    let crossing : one_if (crosses (map slot_in c.waits-5.result.now)) 1 ≡ one_if (spec.is_crosser d) 1 = ap (λ ss. one_if (crosses ss) 1) c.waits-5.ensures.slots in
    omega (arith, many, crossing, c.requires.indexed.cross)

pub overflow_sub-self-3 : goal.overflow_sub-self-3
overflow_sub-self-3 c =
    let es = c.args.self.now.entries.items in
    let d = c.in-Some.entry.now in
    let own : filter (λ e. nat_eq c.args.tid.0 e.thread) es ≡ d ∷ [] = c.in-Some.ensures.1 in
    let many = left_those spec.is_crosser c.args.tid.0 es d own in
    let crossing : c.crossers_within.result ≡ one_if (spec.is_crosser d) 1 = c.crossers_within.ensures ∙ ap (λ ss. one_if (crosses ss) 1) c.waits-5.ensures.slots in
    omega (arith, many, crossing, c.requires.indexed.cross)

pub returns-clause-entries : goal.returns-clause-entries
returns-clause-entries c = c.take-gone.ensures.items

pub returns-clause-indexed : goal.returns-clause-indexed
returns-clause-indexed c =
    let es = c.args.self.now.entries.items in
    let d = c.in-Some.entry.now in
    let own : filter (λ e. nat_eq c.args.tid.0 e.thread) es ≡ d ∷ [] = c.in-Some.ensures.1 in
    let rest : c.take-gone.new.self.items ≡ filter (λ e. not (nat_eq c.args.tid.0 e.thread)) es = c.take-gone.ensures.items ∙ sym (gone_one c.args.tid es) in
    let without_ : c.take-gone.new.self.items ≡ without (c.args.tid ∷ []) es = c.take-gone.ensures.items in
    let lit = lit_by (spec.told c.args.self.now.flags.entries) in
    let many = left_all c.args.tid.0 es d own in
    let count : length c.waits-2.result.now ≡ length (bases d.group) = c.waits-2.ensures.many in
    let after : length (offers_of c.take-gone.new.self.items) ≡ length (offers_of (filter (λ e. not (nat_eq c.args.tid.0 e.thread)) es)) = ap (λ xs. length (offers_of xs)) rest in
    let many_cross = left_those spec.is_crosser c.args.tid.0 es d own in
    let crossing : c.crossers_within.result ≡ one_if (spec.is_crosser d) 1 = c.crossers_within.ensures ∙ ap (λ ss. one_if (crosses ss) 1) c.waits-5.ensures.slots in
    let after_cross : length (filter spec.is_crosser c.take-gone.new.self.items)
    ≡ length (filter spec.is_crosser (filter (λ e. not (nat_eq c.args.tid.0 e.thread)) es)) = ap
    (λ xs. length (filter spec.is_crosser xs)) rest in
    let many_lit = left_count lit c.args.tid.0 es d own in
    let count_lit : c.count_lit_within-lit.result ≡ length (filter lit (bases d.group)) = c.count_lit_within-lit.ensures.count
    ∙ ap (λ ws. length (filter (lit_wait (spec.told c.args.self.now.flags.entries)) ws)) c.waits.ensures.same
    ∙ waits_lit (spec.told c.args.self.now.flags.entries) (bases d.group) in
    let after_lit : length (spec.lit_offers c.args.self.now.flags.entries c.take-gone.new.self.items)
    ≡ length (filter (λ o. lit o.base) (offers_of (filter (λ e. not (nat_eq c.args.tid.0 e.thread)) es))) = ap
    (λ xs. length (filter (λ o. lit o.base) (offers_of xs))) rest in
    record {
      sorted = subst IsSorted (sym without_) (sorted_without (c.args.tid ∷ []) es c.requires.indexed.sorted);
      placed = λ k. c.go.ensures.lanes k ∙ ap (others c.args.tid) (c.requires.indexed.placed k)
          ∙ sym (left_rest spec.slot_of k c.args.tid es) ∙ ap (λ xs. lane_of spec.slot_of k (offers_of xs)) (sym rest);
      sides = c.cut_all.ensures.live;
      counted = c.cut_all.ensures.counted;
      still = c.go.ensures.going;
      all = omega (arith, many, count, after, c.requires.indexed.all);
      cross = omega (arith, many_cross, crossing, after_cross, c.requires.indexed.cross);
      alone = omega (arith, many_lit, count_lit, after_lit, c.requires.indexed.alone);
      named = subst (λ xs. Every (λ k. spec.is_named c.args.self.now.flags.entries (spec.slot_of_nack k))
          (spec.nacks_in xs)) (sym rest) (nacks_left
          (λ k. spec.is_named c.args.self.now.flags.entries (spec.slot_of_nack k))
          (λ e. not (nat_eq c.args.tid.0 e.thread)) es c.requires.indexed.named);
    }

pub returns-clause-freed : goal.returns-clause-freed
returns-clause-freed c = record {
  room = search rules;
  shorter = λ k.
      let fewer : length (others c.args.tid (lane_at c.args.self.now.lanes k)) ≤ length (lane_at c.args.self.now.lanes k) = filter_fewer (is_others c.args.tid) (lane_at c.args.self.now.lanes k) in
      let same : length (lane_at c.go.new.self k) ≡ length (others c.args.tid (lane_at c.args.self.now.lanes k)) = ap length (c.go.ensures.lanes k) in
      omega (arith, fewer, same);
  lighter = search rules;
  seat = search rules;
  places = c.cut_all.ensures.places;
  late = c.go.ensures.late;
  named = λ k named. named;
}

pub returns-clause-cost : goal.returns-clause-cost
returns-clause-cost c digits few =
    let es = c.args.self.now.entries.items in
    let d = c.in-Some.entry.now in
    let own : filter (λ e. nat_eq c.args.tid.0 e.thread) es ≡ d ∷ [] = c.in-Some.ensures.1 in
    let many = left_all c.args.tid.0 es d own in
    let count : length c.waits-2.result.now ≡ length (bases d.group) = c.waits-2.ensures.many in
    let count1 : length c.waits.result.now ≡ length (bases d.group) = c.waits.ensures.many in
    let left = c.args.self.now.leaves - length (bases d.group) in
    let whole : c.args.self.now.leaves ≡ length (bases d.group) + left = omega (arith, many, c.requires.indexed.all) in
    let rest : c.args.self.now.leaves - length c.waits-2.result.now ≡ left = ap (λ n. c.args.self.now.leaves - n) count in
    let one : c.count_lit_within-lit.new.tally ≤ c.args.tally.now + 2 * length (bases d.group) = omega (arith, c.count_lit_within-lit.ensures.cost, count1) in
    let two = c.go.ensures.cost digits few in
    let sum = move_cost c.args.tally.now c.count_lit_within-lit.new.tally c.go.new.tally (length (bases d.group)) _ left digits one two (omega (arith, c.waits-3.ensures.many)) in
    rw (rest) (rw (← whole) at sum)
