use Rattle.std.proofs.Common.{◌≡◌, ◌≤◌, ◌+◌, ◌-◌, ◌++◌, length, filter, take, drop, arith, ap, subst, sym, ◌∙◌}
use Rattle.std.proofs.lemmas.List.{length-drop}
use Rattle.cml_scan.specs.Order.{Ascends, before}
use Rattle.cml_objects.specs.declared.lane.Bound.TheVariants.{Below}
use Rattle.cml_objects.specs.Lanes.{PlainLane, is_own, is_others}
use Rattle.cml_objects.proofs.Counts.{count_under, others_many, removed, Ascends-filter}
use Rattle.cml_objects.proofs.Free.{let_go, taken_out}
use Rattle.cml_objects.proofs.lane.Lane.go_before.Goals as goal

-- from the front

pub overflow_add-self : goal.overflow_add-self
overflow_add-self c =
    let ps = c.args.self.now.places in
    let same : drop c.self.inside.free c.self.inside.places.items ≡ ps = ap (λ (v : PlainLane). v.places) c.self.view_is in
    let long : length ps ≡ length c.self.inside.places.items - c.self.inside.free = ap length (sym same) ∙ length-drop c.self.inside.free c.self.inside.places.items in
    let up : Ascends before ps = subst (Ascends before) same c.self.invariant.1 in
    let m = others_many c.args.tid ps up in
    omega (arith, long, m.own, m.high, c.self.invariant.0, c.self.inside.places.ok.0, c.self.inside.places.ok, c.requires.at, c.requires.count)

pub returns-then-at-eq0-clause-places : goal.returns-then-at-eq0-clause-places
returns-then-at-eq0-clause-places c =
    let ps = c.args.self.now.places in
    let at = count_under (Below c.args.tid) ps in
    let own = length (filter (is_own c.args.tid) ps) in
    let same : drop c.self.inside.free c.self.inside.places.items ≡ ps = ap (λ (v : PlainLane). v.places) c.self.view_is in
    let up : Ascends before ps = subst (Ascends before) same c.self.invariant.1 in
    let none : at ≡ 0 = sym c.requires.at ∙ c.if-at-eq0.true in
    let place : c.args.count ≡ at + own = omega (arith, none, c.requires.count) in
    let_go c.self.inside.places.items ps c.self.inside.free c.args.count same
    ∙ ap (λ k. drop k ps) place
    ∙ sym (ap (λ k. take k ps ++ drop (at + own) ps) none)
    ∙ removed c.args.tid ps up

pub returns-then-at-eq0-clause-sorted : goal.returns-then-at-eq0-clause-sorted
returns-then-at-eq0-clause-sorted c =
    let ps = c.args.self.now.places in
    let same : drop c.self.inside.free c.self.inside.places.items ≡ ps = ap (λ (v : PlainLane). v.places) c.self.view_is in
    let up : Ascends before ps = subst (Ascends before) same c.self.invariant.1 in
    subst (Ascends before) (sym (returns-then-at-eq0-clause-places c)) (Ascends-filter (is_others c.args.tid) ps up)

pub invariant_of-self : goal.invariant_of-self
invariant_of-self c =
    let ps = c.args.self.now.places in
    let same : drop c.self.inside.free c.self.inside.places.items ≡ ps = ap (λ (v : PlainLane). v.places) c.self.view_is in
    let long : length ps ≡ length c.self.inside.places.items - c.self.inside.free = ap length (sym same) ∙ length-drop c.self.inside.free c.self.inside.places.items in
    let up : Ascends before ps = subst (Ascends before) same c.self.invariant.1 in
    let m = others_many c.args.tid ps up in
    (omega (arith, long, m.own, m.high, c.self.invariant.0, c.self.inside.places.ok.0, c.requires.at, c.requires.count), returns-then-at-eq0-clause-sorted c)

-- from another place

pub remove_run-requires : goal.remove_run-requires
remove_run-requires c =
    let ps = c.args.self.now.places in
    let same : drop c.self.inside.free c.self.inside.places.items ≡ ps = ap (λ (v : PlainLane). v.places) c.self.view_is in
    let long : length ps ≡ length c.self.inside.places.items - c.self.inside.free = ap length (sym same) ∙ length-drop c.self.inside.free c.self.inside.places.items in
    let up : Ascends before ps = subst (Ascends before) same c.self.invariant.1 in
    let m = others_many c.args.tid ps up in
    omega (arith, long, m.own, m.high, c.self.invariant.0, c.self.inside.places.ok.0, c.requires.at, c.requires.count)

pub overflow_add-self-inside : goal.overflow_add-self-inside
overflow_add-self-inside c =
    let ps = c.args.self.now.places in
    let same : drop c.self.inside.free c.self.inside.places.items ≡ ps = ap (λ (v : PlainLane). v.places) c.self.view_is in
    let long : length ps ≡ length c.self.inside.places.items - c.self.inside.free = ap length (sym same) ∙ length-drop c.self.inside.free c.self.inside.places.items in
    let up : Ascends before ps = subst (Ascends before) same c.self.invariant.1 in
    let m = others_many c.args.tid ps up in
    omega (arith, long, m.own, m.high, c.self.invariant.0, c.self.inside.places.ok.0, c.self.inside.places.ok, c.requires.at, c.requires.count)

pub returns-else-at-eq0-clause-places : goal.returns-else-at-eq0-clause-places
returns-else-at-eq0-clause-places c =
    let ps = c.args.self.now.places in
    let kept = c.self.inside.places.items in
    let free = c.self.inside.free in
    let at = count_under (Below c.args.tid) ps in
    let same : drop free kept ≡ ps = ap (λ (v : PlainLane). v.places) c.self.view_is in
    let long : length ps ≡ length kept - free = ap length (sym same) ∙ length-drop free kept in
    let up : Ascends before ps = subst (Ascends before) same c.self.invariant.1 in
    let m = others_many c.args.tid ps up in
    let within : free + at ≤ length kept = omega (arith, long, m.own, m.high, c.self.invariant.0, c.self.inside.places.ok.0) in
    ap (drop free) (c.remove_run.ensures.items
    ∙ ap (λ k. take (free + k) kept ++ drop (free + k + c.args.count) kept) c.requires.at)
    ∙ taken_out kept ps free at c.args.count same within
    ∙ ap (λ n. take at ps ++ drop (at + n) ps) c.requires.count
    ∙ removed c.args.tid ps up

pub returns-else-at-eq0-clause-sorted : goal.returns-else-at-eq0-clause-sorted
returns-else-at-eq0-clause-sorted c =
    let ps = c.args.self.now.places in
    let same : drop c.self.inside.free c.self.inside.places.items ≡ ps = ap (λ (v : PlainLane). v.places) c.self.view_is in
    let up : Ascends before ps = subst (Ascends before) same c.self.invariant.1 in
    subst (Ascends before) (sym (returns-else-at-eq0-clause-places c)) (Ascends-filter (is_others c.args.tid) ps up)

pub invariant_of-self-else-at-eq0 : goal.invariant_of-self-else-at-eq0
invariant_of-self-else-at-eq0 c =
    let ps = c.args.self.now.places in
    let same : drop c.self.inside.free c.self.inside.places.items ≡ ps = ap (λ (v : PlainLane). v.places) c.self.view_is in
    let long : length ps ≡ length c.self.inside.places.items - c.self.inside.free = ap length (sym same) ∙ length-drop c.self.inside.free c.self.inside.places.items in
    let up : Ascends before ps = subst (Ascends before) same c.self.invariant.1 in
    let m = others_many c.args.tid ps up in
    (omega (arith, long, m.own, m.high, c.self.invariant.0, c.self.inside.places.ok.0, c.remove_run.ensures.len, c.requires.count), returns-else-at-eq0-clause-sorted c)
