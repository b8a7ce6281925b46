use Rattle.std.proofs.Common.{◌≡◌, ◌≤◌, ◌<◌, ◌+◌, ◌-◌, ◌/◌, length, drop, get_or, arith, ap, subst, sym, ◌∙◌, true, false}
use Rattle.cml_scan.specs.Order.{Ascends, before}
use Rattle.cml_objects.specs.Lanes.{PlainLane, under}
use Rattle.cml_objects.proofs.Counts.{count_under, counted, halved, filter_fewer}
use Rattle.cml_objects.proofs.lane.Lane.count_under.Goals as goal

pub loop-low-init : goal.loop-low-init
loop-low-init c =
    let ps = c.args.self.now.places in
    let all : c.len-high.result ≡ length ps = c.len-high.ensures in
    let fewer : count_under c.args.bound ps ≤ length ps = filter_fewer (under c.args.bound) ps in
    record {
      low = omega arith;
      high = omega arith;
      within = omega arith;
      cost = λ digits h. (digits, omega arith, omega arith);
    }

pub loop-low-preserved-then-is_under : goal.loop-low-preserved-then-is_under
loop-low-preserved-then-is_under c =
    let ps = c.args.self.now.places in
    let same : drop c.self.inside.free c.self.inside.places.items ≡ ps = ap (λ (v : PlainLane). v.places) c.self.view_is in
    let up : Ascends before ps = subst (Ascends before) same c.self.invariant.1 in
    let at = counted c.args.bound ps (c.loop-low.low + (c.loop-low.high - c.loop-low.low) / 2) c.look-seen.result up (omega arith) in
    let is_in : under c.args.bound (get_or ps (c.loop-low.low + (c.loop-low.high - c.loop-low.low) / 2)
    c.look-seen.result) ≡ true = ap (under c.args.bound) (sym c.look-seen.ensures.value)
    ∙ sym c.is_under.ensures ∙ c.if-is_under.true in
    let low : c.loop-low.low + (c.loop-low.high - c.loop-low.low) / 2 < count_under c.args.bound ps = at.below is_in in
    record {
      low = omega arith;
      high = c.loop-low.invariant.high;
      within = c.loop-low.invariant.within;
      cost = λ digits h. halved (c.loop-low.high - c.loop-low.low) _ c.loop-low.tally _ _ (omega arith) (omega arith) (omega arith) (c.loop-low.invariant.cost digits h);
    }

pub loop-low-preserved : goal.loop-low-preserved
loop-low-preserved c =
    let ps = c.args.self.now.places in
    let same : drop c.self.inside.free c.self.inside.places.items ≡ ps = ap (λ (v : PlainLane). v.places) c.self.view_is in
    let up : Ascends before ps = subst (Ascends before) same c.self.invariant.1 in
    let at = counted c.args.bound ps (c.loop-low.low + (c.loop-low.high - c.loop-low.low) / 2) c.look-seen.result up (omega arith) in
    let is_out : under c.args.bound (get_or ps (c.loop-low.low + (c.loop-low.high - c.loop-low.low) / 2)
    c.look-seen.result) ≡ false = ap (under c.args.bound) (sym c.look-seen.ensures.value)
    ∙ sym c.is_under.ensures ∙ c.if-is_under.false in
    record {
      low = c.loop-low.invariant.low;
      high = at.above is_out;
      within = omega arith;
      cost = λ digits h. halved (c.loop-low.high - c.loop-low.low) _ c.loop-low.tally _ _ (omega arith) (omega arith) (omega arith) (c.loop-low.invariant.cost digits h);
    }
