use Rattle.std.proofs.Common.{◌+◌, ◌-◌, get_or, length, arith, ap, subst, sym, ◌∙◌}
use Rattle.cml_objects.specs.Lanes.{PlainLane, those}
use Rattle.cml_objects.specs.declared.lane.Bound.TheVariants.{UpTo}
use Rattle.cml_scan.specs.Order.{Ascends, before}
use Rattle.cml_objects.proofs.Counts.{count_under, others_many, other_low, other_high, above_many, above_at}
use Rattle.cml_objects.proofs.lane.Lane.other.Goals as goal
use Rattle.cml_objects.proofs.lane.Lane.other.Goals.{then-j-low, else-j-low}

pub look-requires : goal.look-requires
look-requires c =
    let ps = c.args.self.now.places in
    let up : Ascends before ps = subst (Ascends before) (ap (λ (v : PlainLane). v.places) c.self.view_is) c.self.invariant.1 in
    let m = others_many c.in-Others.tid ps up in
    let same = ap (λ w. length (those w ps)) c.in-Others.is in
    elim c.if-j-low.branch [
      | then-j-low w ↦ omega (arith, same, m.many, m.low, m.high, c.requires, c.count_under-low.ensures.count, c.count_under-high.ensures.count)
      | else-j-low w ↦ omega (arith, same, m.many, m.low, m.high, c.requires, c.count_under-low.ensures.count, c.count_under-high.ensures.count)
    ]

pub overflow_add-k : goal.overflow_add-k
overflow_add-k c =
    let ps = c.args.self.now.places in
    let up : Ascends before ps = subst (Ascends before) (ap (λ (v : PlainLane). v.places) c.self.view_is) c.self.invariant.1 in
    let m = others_many c.in-Others.tid ps up in
    let same = ap (λ w. length (those w ps)) c.in-Others.is in
    omega (arith, same, m.many, m.low, m.high, c.requires, c.count_under-low.ensures.count, c.count_under-high.ensures.count, c.len-len.ensures, c.len-len.type_inv)

pub overflow_add-high : goal.overflow_add-high
overflow_add-high c =
    let ps = c.args.self.now.places in
    let m = above_many c.in-Above.tid ps in
    let same = ap (λ w. length (those w ps)) c.in-Above.is in
    omega (arith, same, m.many, c.requires, c.count_under-high-in-Above.ensures.count, c.len-len.ensures, c.len-len.type_inv)

pub look-requires-in-Above : goal.look-requires-in-Above
look-requires-in-Above c =
    let ps = c.args.self.now.places in
    let m = above_many c.in-Above.tid ps in
    let same = ap (λ w. length (those w ps)) c.in-Above.is in
    omega (arith, same, m.many, c.requires, c.count_under-high-in-Above.ensures.count)

pub returns-after-j-low-clause-value : goal.returns-after-j-low-clause-value
returns-after-j-low-clause-value c =
    let ps = c.args.self.now.places in
    let tid = c.in-Others.tid in
    let up : Ascends before ps = subst (Ascends before) (ap (λ (v : PlainLane). v.places) c.self.view_is) c.self.invariant.1 in
    let same = ap (λ w. get_or (those w ps) c.args.j c.look.result) (sym c.in-Others.is) in
    elim c.if-j-low.branch [
      | then-j-low w ↦ c.look.ensures.value ∙ ap (λ k. get_or ps k c.look.result) w.k-is
          ∙ sym (other_low tid ps c.args.j c.look.result up
          (omega (arith, c.count_under-low.ensures.count, w.if-j-low.true))) ∙ same
      | else-j-low w ↦ c.look.ensures.value
          ∙ ap (λ k. get_or ps k c.look.result)
          (w.k-is ∙ ap (λ h. h + (c.args.j - c.count_under-low.result)) c.count_under-high.ensures.count
          ∙ ap (λ l. count_under (UpTo tid) ps + (c.args.j - l)) c.count_under-low.ensures.count)
          ∙ sym (other_high tid ps c.args.j c.look.result up
          (omega (arith, c.count_under-low.ensures.count, w.if-j-low.false))) ∙ same
    ]

pub returns-in-Above-clause-value : goal.returns-in-Above-clause-value
returns-in-Above-clause-value c =
    let ps = c.args.self.now.places in
    let tid = c.in-Above.tid in
    let r = c.look-in-Above.result in
    let up : Ascends before ps = subst (Ascends before) (ap (λ (v : PlainLane). v.places) c.self.view_is) c.self.invariant.1 in
    c.look-in-Above.ensures.value ∙ ap (λ h. get_or ps (h + c.args.j) r) c.count_under-high-in-Above.ensures.count
    ∙ sym (above_at tid ps c.args.j r up)
    ∙ ap (λ w. get_or (those w ps) c.args.j r) (sym c.in-Above.is)
