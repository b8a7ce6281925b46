use Rattle.std.proofs.Common.{◌≡◌, ◌≤◌, length, drop, arith, ap, subst, sym, ◌∙◌}
use Rattle.cml_scan.specs.Order.{Ascends, before}
use Rattle.cml_objects.specs.declared.lane.Bound.TheVariants.{Below}
use Rattle.cml_objects.specs.Lanes.{PlainLane, run}
use Rattle.cml_objects.proofs.Counts.{count_under, inserted, Ascends-with}
use Rattle.cml_objects.proofs.Free.{put_last}
use Rattle.cml_objects.proofs.lane.Lane.come.Goals as goal

pub returns-then-at-len-clause-places : goal.returns-then-at-len-clause-places
returns-then-at-len-clause-places c =
    let ps = c.args.self.now.places in
    let kept = c.self.inside.places.items in
    let free = c.self.inside.free in
    let rs = run c.args.tid c.args.leaves.now in
    let at = count_under (Below c.args.tid) ps in
    let same : drop free kept ≡ ps = ap (λ (v : PlainLane). v.places) c.self.view_is in
    let up : Ascends before ps = subst (Ascends before) same c.self.invariant.1 in
    let within : free ≤ length kept = omega (arith, c.self.invariant.0, c.self.inside.places.ok.0) in
    let last : at ≡ length ps = sym c.count_under-at.ensures.count ∙ c.if-at-len.true ∙ c.len.ensures in
    ap (drop free) c.push_run.ensures.items ∙ put_last kept ps rs free at same within last
    ∙ inserted c.args.tid c.args.leaves.now ps up c.requires.new

pub returns-then-at-len-clause-sorted : goal.returns-then-at-len-clause-sorted
returns-then-at-len-clause-sorted c =
    let ps = c.args.self.now.places in
    let same : drop c.self.inside.free c.self.inside.places.items ≡ ps = ap (λ (v : PlainLane). v.places) c.self.view_is in
    let up : Ascends before ps = subst (Ascends before) same c.self.invariant.1 in
    subst (Ascends before) (sym (returns-then-at-len-clause-places c)) (Ascends-with c.args.tid c.args.leaves.now ps up c.requires.ascend)

pub invariant_of-self : goal.invariant_of-self
invariant_of-self c = (omega (arith, c.self.invariant.0, c.push_run.ensures.len), returns-then-at-len-clause-sorted c)
