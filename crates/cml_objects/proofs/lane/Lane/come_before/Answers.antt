use Rattle.std.proofs.Common.{◌≡◌, ◌≤◌, ◌+◌, ◌-◌, ◌++◌, length, take, drop, arith, ap, subst, sym, ◌∙◌}
use Rattle.std.proofs.lemmas.List.{length-drop}
use Rattle.cml_scan.specs.Order.{Ascends, before}
use Rattle.cml_objects.specs.declared.lane.Bound.TheVariants.{Below}
use Rattle.cml_objects.specs.Lanes.{PlainLane, under, run}
use Rattle.cml_objects.proofs.Counts.{count_under, filter_fewer, inserted, Ascends-with, written}
use Rattle.cml_objects.proofs.Free.{put_in}
use Rattle.cml_objects.proofs.lane.Lane.come_before.Goals as goal

-- into the free places

pub returns-then-leaves-self-clause-places : goal.returns-then-leaves-self-clause-places
returns-then-leaves-self-clause-places c =
    let ps = c.args.self.now.places in
    let rs = run c.args.tid c.args.leaves.now in
    let free = c.self.inside.free in
    let less = free - length c.args.leaves.now in
    let same : drop free c.self.inside.places.items ≡ ps = ap (λ (v : PlainLane). v.places) c.self.view_is in
    let up : Ascends before ps = subst (Ascends before) same c.self.invariant.1 in
    let none : count_under (Below c.args.tid) ps ≡ 0 = sym c.requires.at ∙ c.if-at-eq0.true in
    let back : less + length c.args.leaves.now ≡ free = omega (arith, c.if-leaves-self.true) in
    ap (drop less) (written c.self.inside.places.len c.write_run.new.places
    (drop (length c.write_run.new.places) c.self.inside.places.items)
    (omega (arith, c.write_run.ensures.len, c.deref_mut.ensures.len)))
    ∙ c.write_run.ensures.items
    ∙ ap (λ xs. rs ++ drop (less + length c.args.leaves.now) xs) c.deref_mut.ensures.value
    ∙ ap (λ k. rs ++ drop k c.self.inside.places.items) back
    ∙ ap (λ xs. rs ++ xs) same
    ∙ sym (ap (λ k. take k ps ++ (rs ++ drop k ps)) none)
    ∙ inserted c.args.tid c.args.leaves.now ps up c.requires.new

pub returns-then-leaves-self-clause-sorted : goal.returns-then-leaves-self-clause-sorted
returns-then-leaves-self-clause-sorted c =
    let ps = c.args.self.now.places in
    let same : drop c.self.inside.free c.self.inside.places.items ≡ ps = ap (λ (v : PlainLane). v.places) c.self.view_is in
    let up : Ascends before ps = subst (Ascends before) same c.self.invariant.1 in
    subst (Ascends before) (sym (returns-then-leaves-self-clause-places c)) (Ascends-with c.args.tid c.args.leaves.now ps up c.requires.ascend)

pub invariant_of-self : goal.invariant_of-self
invariant_of-self c = (omega (arith, c.self.invariant.0), returns-then-leaves-self-clause-sorted c)

-- behind the last, and moved to where they belong

pub overflow_add-self-inside : goal.overflow_add-self-inside
overflow_add-self-inside c =
    let ps = c.args.self.now.places in
    let same : drop c.self.inside.free c.self.inside.places.items ≡ ps = ap (λ (v : PlainLane). v.places) c.self.view_is in
    let long : length ps ≡ length c.self.inside.places.items - c.self.inside.free = ap length (sym same) ∙ length-drop c.self.inside.free c.self.inside.places.items in
    let fewer : count_under (Below c.args.tid) ps ≤ length ps = filter_fewer (under (Below c.args.tid)) ps in
    omega (arith, long, fewer, c.self.invariant.0, c.self.inside.places.ok.0, c.requires.at, c.len-tail.ensures, c.len-tail.type_inv)

pub move_tail_to-requires-clause-before : goal.move_tail_to-requires-clause-before
move_tail_to-requires-clause-before c =
    let ps = c.args.self.now.places in
    let same : drop c.self.inside.free c.self.inside.places.items ≡ ps = ap (λ (v : PlainLane). v.places) c.self.view_is in
    let long : length ps ≡ length c.self.inside.places.items - c.self.inside.free = ap length (sym same) ∙ length-drop c.self.inside.free c.self.inside.places.items in
    let fewer : count_under (Below c.args.tid) ps ≤ length ps = filter_fewer (under (Below c.args.tid)) ps in
    omega (arith, long, fewer, c.self.invariant.0, c.self.inside.places.ok.0, c.requires.at, c.len-tail.ensures)

pub returns-else-at-eq0-clause-places : goal.returns-else-at-eq0-clause-places
returns-else-at-eq0-clause-places c =
    let ps = c.args.self.now.places in
    let kept = c.self.inside.places.items in
    let free = c.self.inside.free in
    let rs = run c.args.tid c.args.leaves.now in
    let at = count_under (Below c.args.tid) ps in
    let same : drop free kept ≡ ps = ap (λ (v : PlainLane). v.places) c.self.view_is in
    let up : Ascends before ps = subst (Ascends before) same c.self.invariant.1 in
    let long : length ps ≡ length kept - free = ap length (sym same) ∙ length-drop free kept in
    let tail : length kept ≡ c.len-tail.result = omega (arith, c.self.inside.places.ok.0, c.len-tail.ensures) in
    let fewer : at ≤ length ps = filter_fewer (under (Below c.args.tid)) ps in
    let within : free + at ≤ length kept = omega (arith, long, fewer, c.self.invariant.0, c.self.inside.places.ok.0) in
    let pushed : c.deref_mut-else-at-eq0.result.now ≡ kept ++ rs = c.deref_mut-else-at-eq0.ensures.value ∙ c.push_run.ensures.items in
    let moved : c.move_tail_to.new.places ≡ take (free + c.args.at) kept
    ++ (rs ++ drop (free + c.args.at) kept) = c.move_tail_to.ensures.after kept rs pushed tail in
    ap (drop free) (written c.push_run.new.places.len c.move_tail_to.new.places
    (drop (length c.move_tail_to.new.places) c.push_run.new.places.items)
    (omega (arith, c.move_tail_to.ensures.len, c.deref_mut-else-at-eq0.ensures.len)) ∙ moved
    ∙ ap (λ k. take (free + k) kept ++ (rs ++ drop (free + k) kept)) c.requires.at)
    ∙ put_in kept ps rs free at same within
    ∙ inserted c.args.tid c.args.leaves.now ps up c.requires.new

pub returns-else-at-eq0-clause-sorted : goal.returns-else-at-eq0-clause-sorted
returns-else-at-eq0-clause-sorted c =
    let ps = c.args.self.now.places in
    let same : drop c.self.inside.free c.self.inside.places.items ≡ ps = ap (λ (v : PlainLane). v.places) c.self.view_is in
    let up : Ascends before ps = subst (Ascends before) same c.self.invariant.1 in
    subst (Ascends before) (sym (returns-else-at-eq0-clause-places c)) (Ascends-with c.args.tid c.args.leaves.now ps up c.requires.ascend)

pub invariant_of-self-else-at-eq0 : goal.invariant_of-self-else-at-eq0
invariant_of-self-else-at-eq0 c = (omega (arith, c.self.invariant.0, c.push_run.ensures.len), returns-else-at-eq0-clause-sorted c)
