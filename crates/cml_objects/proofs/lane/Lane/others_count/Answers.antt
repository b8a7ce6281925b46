use Rattle.std.proofs.Common.{length, arith, ap, subst}
use Rattle.cml_objects.specs.Lanes.{PlainLane, those}
use Rattle.cml_scan.specs.Order.{Ascends, before}
use Rattle.cml_objects.proofs.Counts.{others_many, above_many}
use Rattle.cml_objects.proofs.lane.Lane.others_count.Goals as goal

pub overflow_sub-result : goal.overflow_sub-result
overflow_sub-result c =
    let ps = c.args.self.now.places in
    let up : Ascends before ps = subst (Ascends before) (ap (λ (v : PlainLane). v.places) c.self.view_is) c.self.invariant.1 in
    let m = others_many c.in-Others.tid ps up in
    omega (arith, m.high, c.count_under-high.ensures.count, c.len.ensures)

pub overflow_add-result : goal.overflow_add-result
overflow_add-result c =
    let ps = c.args.self.now.places in
    let up : Ascends before ps = subst (Ascends before) (ap (λ (v : PlainLane). v.places) c.self.view_is) c.self.invariant.1 in
    let m = others_many c.in-Others.tid ps up in
    omega (arith, m.low, m.high, c.count_under-low.ensures.count, c.count_under-high.ensures.count, c.len.ensures)

pub overflow_sub-result-in-Above : goal.overflow_sub-result-in-Above
overflow_sub-result-in-Above c =
    let m = above_many c.in-Above.tid c.args.self.now.places in
    omega (arith, m.high, c.count_under.ensures.count, c.len-in-Above.ensures)

pub returns-in-Others-clause-count : goal.returns-in-Others-clause-count
returns-in-Others-clause-count c =
    let ps = c.args.self.now.places in
    let up : Ascends before ps = subst (Ascends before) (ap (λ (v : PlainLane). v.places) c.self.view_is) c.self.invariant.1 in
    let m = others_many c.in-Others.tid ps up in
    let same = ap (λ w. length (those w ps)) c.in-Others.is in
    omega (arith, same, m.many, m.low, m.high, c.count_under-low.ensures.count, c.count_under-high.ensures.count, c.len.ensures)

pub returns-in-Above-clause-count : goal.returns-in-Above-clause-count
returns-in-Above-clause-count c =
    let ps = c.args.self.now.places in
    let m = above_many c.in-Above.tid ps in
    let same = ap (λ w. length (those w ps)) c.in-Above.is in
    omega (arith, same, m.many, c.count_under.ensures.count, c.len-in-Above.ensures)
