use Rattle.std.proofs.Common.{◌≡◌, ◌+◌, ◌-◌, ◌++◌, length, take, drop, arith, ap, subst, sym, ◌∙◌}
use Rattle.std.proofs.lemmas.List.{length-drop}
use Rattle.cml_scan.specs.Order.{Ascends, before}
use Rattle.cml_objects.specs.declared.lane.Bound.TheVariants.{Below}
use Rattle.cml_objects.specs.Lanes.{PlainLane, is_others}
use Rattle.cml_objects.proofs.Counts.{count_under, others_many, removed, Ascends-filter}
use Rattle.cml_objects.proofs.Free.{cut_off}
use Rattle.cml_objects.proofs.lane.Lane.go.Goals as goal

pub overflow_add-at : goal.overflow_add-at
overflow_add-at c =
    let ps = c.args.self.now.places in
    let same : drop c.self.inside.free c.self.inside.places.items ≡ ps = ap (λ (v : PlainLane). v.places) c.self.view_is in
    let long : length ps ≡ length c.self.inside.places.items - c.self.inside.free = ap length (sym same) ∙ length-drop c.self.inside.free c.self.inside.places.items in
    let up : Ascends before ps = subst (Ascends before) same c.self.invariant.1 in
    let m = others_many c.args.tid ps up in
    omega (arith, long, m.own, m.high, c.self.invariant.0, c.self.inside.places.ok.0, c.self.inside.places.ok, c.count_under-at.ensures.count, c.requires)

pub returns-then-at-count-clause-places : goal.returns-then-at-count-clause-places
returns-then-at-count-clause-places c =
    let ps = c.args.self.now.places in
    let kept = c.self.inside.places.items in
    let free = c.self.inside.free in
    let at = count_under (Below c.args.tid) ps in
    let same : drop free kept ≡ ps = ap (λ (v : PlainLane). v.places) c.self.view_is in
    let up : Ascends before ps = subst (Ascends before) same c.self.invariant.1 in
    let last : at + c.args.count ≡ length ps = ap (λ n. n + c.args.count) (sym c.count_under-at.ensures.count) ∙ c.if-at-count.true ∙ c.len.ensures in
    ap (drop free) (c.truncate.ensures.items ∙ ap (λ k. take (free + k) kept) c.count_under-at.ensures.count)
    ∙ cut_off kept ps free at c.args.count same last
    ∙ ap (λ n. take at ps ++ drop (at + n) ps) c.requires
    ∙ removed c.args.tid ps up

pub returns-then-at-count-clause-sorted : goal.returns-then-at-count-clause-sorted
returns-then-at-count-clause-sorted c =
    let ps = c.args.self.now.places in
    let same : drop c.self.inside.free c.self.inside.places.items ≡ ps = ap (λ (v : PlainLane). v.places) c.self.view_is in
    let up : Ascends before ps = subst (Ascends before) same c.self.invariant.1 in
    subst (Ascends before) (sym (returns-then-at-count-clause-places c)) (Ascends-filter (is_others c.args.tid) ps up)

pub invariant_of-self : goal.invariant_of-self
invariant_of-self c =
    let ps = c.args.self.now.places in
    let same : drop c.self.inside.free c.self.inside.places.items ≡ ps = ap (λ (v : PlainLane). v.places) c.self.view_is in
    let long : length ps ≡ length c.self.inside.places.items - c.self.inside.free = ap length (sym same) ∙ length-drop c.self.inside.free c.self.inside.places.items in
    let last : c.count_under-at.result + c.args.count ≡ length ps = c.if-at-count.true ∙ c.len.ensures in
    (omega (arith, long, last, c.self.invariant.0, c.self.inside.places.ok.0, c.truncate.ensures.len), returns-then-at-count-clause-sorted c)
