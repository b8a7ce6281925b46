use Rattle.std.proofs.Common.{◌≡◌, ◌≤◌, ◌+◌, true, false, drop, length, ap, ◌∙◌, arith}
use Rattle.std.specs.List.{filter}
use Rattle.std.proofs.lemmas.List.{at_drop_more, at_drop_all}
use Rattle.cml_scan.specs.Scan.{offers_of}
use Rattle.cml_scan.specs.Order.{has_partner}
use Rattle.cml_index.specs.declared.slot.Slot.TheVariants.{Side}
use Rattle.cml_objects.specs.declared.pairing.PairedId.{PairedId}
use Rattle.cml_index.specs.Heads.{heads_on}
use Rattle.cml_index.specs.Live.{objects}
use Rattle.cml_index.proofs.Parted.{filter_fewer}
use Rattle.cml_index.proofs.Beside.{got, within}
use Rattle.cml_index.proofs.Counted.{both_kept, total, head_total_is, size_on, all_met, sizes}
use Rattle.cml_index.proofs.Summed.{total-drop}
use Rattle.cml_index.proofs.counts.count_met.Goals as goal

pub overflow_add-count : goal.overflow_add-count
overflow_add-count c =
    let os = offers_of c.args.core.now.entries.items in
    let keys = objects c.args.core.now.live in
    let both = both_kept c.args.core.now.lanes c.args.core.now.live os c.requires.sides c.requires.placed in
    let i = c.loop-i.i in
    let m = c.at.result in
    let on = λ (n : PairedId). length (heads_on os n) in
    let step : total on (drop i keys) ≡ on m + total on (drop (i + 1) keys) = at_drop_more (total on) keys i m
    (within keys i m c.at.ensures)
    ∙ ap (λ n. on n + total on (drop (i + 1) keys)) (got keys i m c.at.ensures) in
    let whole = all_met os keys c.len-i-end.ensures.once both in
    let few : length (filter (has_partner os) os) ≤ length os = filter_fewer (has_partner os) os in
    omega (arith, step, whole, few, c.loop-i.invariant.count, c.count_on-count.ensures.count, c.requires.all)

pub loop-i-init : goal.loop-i-init
loop-i-init c =
    let os = offers_of c.args.core.now.entries.items in
    let keys = objects c.args.core.now.live in
    let rest = head_total_is os (drop c.kept_count-count.result.1 keys) in
    let whole = head_total_is os keys in
    let fewer = total-drop (size_on os) c.kept_count-count.result.1 keys in
    record {
      count = omega (arith, rest, whole, c.kept_count-count.ensures);
      cost = omega (arith, fewer);
    }

pub loop-i-preserved : goal.loop-i-preserved
loop-i-preserved c =
    let os = offers_of c.args.core.now.entries.items in
    let keys = objects c.args.core.now.live in
    let i = c.loop-i.i in
    let m = c.at.result in
    let on = λ (n : PairedId). length (heads_on os n) in
    let step : total on (drop i keys) ≡ on m + total on (drop (i + 1) keys) = at_drop_more (total on) keys i m
    (within keys i m c.at.ensures)
    ∙ ap (λ n. on n + total on (drop (i + 1) keys)) (got keys i m c.at.ensures) in
    let wide : total (size_on os) (drop i keys)
    ≡ size_on os m + total (size_on os) (drop (i + 1) keys) = at_drop_more (total (size_on os)) keys i m
    (within keys i m c.at.ensures)
    ∙ ap (λ n. size_on os n + total (size_on os) (drop (i + 1) keys)) (got keys i m c.at.ensures) in
    let heads = ap length (c.requires.placed (Side true m)) in
    let others_ = ap length (c.requires.placed (Side false m)) in
    record {
      count = omega (arith, step, c.loop-i.invariant.count, c.count_on-count.ensures.count);
      cost = omega (arith, wide, heads, others_, c.loop-i.invariant.cost, c.count_on-count.ensures.cost);
    }

pub returns-clause-count : goal.returns-clause-count
returns-clause-count c =
    let os = offers_of c.args.core.now.entries.items in
    let keys = objects c.args.core.now.live in
    let both = both_kept c.args.core.now.lanes c.args.core.now.live os c.requires.sides c.requires.placed in
    let on = λ (n : PairedId). length (heads_on os n) in
    let none : total on (drop c.loop-i.i keys) ≡ 0 = at_drop_all (total on) keys c.loop-i.i (omega (arith, c.len-i-end.ensures.count, c.loop-i-test.false)) in
    let whole = all_met os keys c.len-i-end.ensures.once both in
    omega (arith, none, whole, c.loop-i.invariant.count)

pub returns-clause-cost : goal.returns-clause-cost
returns-clause-cost c =
    let os = offers_of c.args.core.now.entries.items in
    let keys = objects c.args.core.now.live in
    let both = both_kept c.args.core.now.lanes c.args.core.now.live os c.requires.sides c.requires.placed in
    let few = sizes os keys c.len-i-end.ensures.once both os in
    omega (arith, few, c.loop-i.invariant.cost)
