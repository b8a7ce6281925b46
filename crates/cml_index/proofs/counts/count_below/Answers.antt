use Rattle.std.proofs.Common.{◌≡◌, ◌-◌, ◌<◌, nat_lt, length, get_or, ap, sym, ◌∙◌, arith}
use Rattle.std.specs.List.{filter}
use Rattle.cml_scan.specs.declared.meet.Place.{Place}
use Rattle.cml_index.proofs.Beside.{above_among, power_above}
use Rattle.cml_index.proofs.counts.count_below.Goals as goal

pub returns-clause-count : goal.returns-clause-count
returns-clause-count c =
    let ps = c.args.lane.now.places in
    let some : 0 < length ps = omega (arith, c.len-len.ensures, c.if-len-eq0.false) in
    let last : c.look-last.result ≡ get_or ps (length ps - 1) c.look-last.result = c.look-last.ensures.value ∙ ap (λ n. get_or ps (n - 1) c.look-last.result) c.len-len.ensures in
    c.below_count.ensures.count ∙ ap (λ (p : Place). length (filter (λ (q : Place). nat_lt q.tid.0 p.tid.0) ps)) last
    ∙ sym (ap length (above_among ps ps c.look-last.result c.requires some))

pub returns-clause-cost : goal.returns-clause-cost
returns-clause-cost c =
    let ps = c.args.lane.now.places in
    let some : 0 < length ps = omega (arith, c.len-len.ensures, c.if-len-eq0.false) in
    let looks = c.below_count.ensures.cost (length ps) (power_above (length ps)) in
    omega (arith, some, looks, c.look-last.ensures.most)
